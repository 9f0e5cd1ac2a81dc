use Rattle.mg_expr.specs.Trees.{tree_of}
use Rattle.mg_rows.specs.Selecting.{tree_value}
use Rattle.mg_rows.proofs.GatherLemmas.{gathered_seen}
use Rattle.mg_rows.proofs.new_rows.each_set.Goals as goal

pub loop-set-preserved : goal.loop-set-preserved
loop-set-preserved c =
    gathered_seen (λ t. tree_value t c.args.row.now) (λ set. tree_of set.value) c.args.sets.now c.loop-set.set-index
    c.set-item.result _ _ _ _ c.loop-set-test.true c.set-item.is c.in_ok-evaluate.ensures c.in_ok-push.ensures.ok
    c.loop-set.invariant
