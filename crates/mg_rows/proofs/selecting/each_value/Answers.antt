use Rattle.mg_expr.specs.Trees.{tree_of}
use Rattle.mg_rows.specs.Selecting.{tree_value}
use Rattle.mg_rows.proofs.GatherLemmas.{gathered_seen}
use Rattle.mg_rows.proofs.selecting.each_value.Goals as goal

pub loop-e-preserved : goal.loop-e-preserved
loop-e-preserved c =
    gathered_seen (λ t. tree_value t c.args.row.now) tree_of c.args.values.now c.loop-e.e-index c.e-item.result _ _ _ _
    c.loop-e-test.true c.e-item.is c.in_ok-evaluate.ensures c.in_ok-push.ensures.ok c.loop-e.invariant
