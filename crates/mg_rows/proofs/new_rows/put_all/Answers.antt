use Rattle.mg_rows.proofs.RowLemmas.{put_back}
use Rattle.std.proofs.Common.{◌∙◌}
use Rattle.mg_rows.proofs.new_rows.put_all.Goals as goal

pub loop-value-preserved : goal.loop-value-preserved
loop-value-preserved c =
    let back = put_back c.loop-value.places.now c.in-Some-split_last.earlier.now c.loop-value.values.items c.pop.new.self.items c.in-Some-split_last.place.now c.in-Some.value c.loop-value.row.items c.set.new.row.items c.in-Some-split_last.ensures.cases.0 c.in-Some.ensures.items c.set.ensures c.loop-value.invariant.0 in
    (back.0, back.1 ∙ c.loop-value.invariant.1)
