use Rattle.std.proofs.Common.{◌∙◌, ap, sym}
use Rattle.mg_works.specs.Works.{with_work, without_change}
use Rattle.mg_table_making.proofs.KeepLemmas.{retracted_next}
use Rattle.mg_table_making.proofs.keeping.retract_last.Goals as goal

pub loop-preserved : goal.loop-preserved
loop-preserved c = c.retract.ensures ∙ (ap (with_work c.args.t.0 without_change) c.loop.invariant
    ∙ sym (retracted_next c.args.t.0 c.loop.counter c.args.works.now))
