use Rattle.mg_rows.proofs.GatherLemmas.{copied}
use Rattle.mg_rows.proofs.selecting.copy_rows.Goals as goal

pub loop-row-preserved : goal.loop-row-preserved
loop-row-preserved c =
    copied c.args.rows.now c.loop-row.row-index c.row-item.result _ _ _ c.loop-row-test.true c.row-item.is
    c.in_ok-copy.ensures c.loop-row.invariant c.in_ok-push.ensures.items
