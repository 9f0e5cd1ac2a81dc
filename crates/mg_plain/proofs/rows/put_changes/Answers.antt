-- The newest is put in last.
use Rattle.std.proofs.Common.{◌∙◌, ap}
use Rattle.mg_model.specs.Changes.{rows_over}
use Rattle.mg_plain.proofs.RowLemmas.{changes_left}
use Rattle.mg_plain.proofs.rows.put_changes.Goals as goal

pub loop-last-preserved : goal.loop-last-preserved
loop-last-preserved c =
    ap (rows_over c.in-Some.before.now c.args.table.now) c.in_ok-put_change.ensures
    ∙ (changes_left c.loop-last.rest.now c.in-Some.before.now c.in-Some.last.now c.args.table.now c.loop-last.rows.items c.in-Some.ensures.cases.0
    ∙ c.loop-last.invariant)
