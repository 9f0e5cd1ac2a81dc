use Rattle.mg_statements.specs.Plain.{trees_in}
use Rattle.mg_rows.specs.Selecting.{selected}
use Rattle.mg_rows.proofs.GatherLemmas.{gathered}
use Rattle.mg_rows.proofs.selecting.select_each.Goals as goal

pub loop-row-preserved : goal.loop-row-preserved
loop-row-preserved c =
    gathered (selected (trees_in c.args.values.now)) c.args.rows.now c.loop-row.row-index c.row-item.result _ _ _ _
    c.loop-row-test.true c.row-item.is c.in_ok-select_one.ensures c.in_ok-push.ensures.ok c.loop-row.invariant
