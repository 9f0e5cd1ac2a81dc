use Rattle.std.proofs.Common.{map, refl}
use Rattle.mg_expr.specs.Trees.{tree_of}
use Rattle.mg_rows.specs.NewRows.{new_row, updated}
use Rattle.mg_rows.proofs.GatherLemmas.{made_on}
use Rattle.mg_rows.proofs.new_rows.update_rows.Goals as goal

pub loop-row-preserved : goal.loop-row-preserved
loop-row-preserved c =
    made_on (new_row c.args.columns.now c.args.places.now (map (λ set. tree_of set.value) c.args.sets.now))
    (updated c.args.columns.now c.args.places.now (map (λ set. tree_of set.value) c.args.sets.now)) c.args.found.now
    c.loop-row.row-index c.row-item.result _ _ _ _ (λ r rs. refl) c.loop-row-test.true c.row-item.is
    c.in_ok-update_row.ensures c.in_ok-push.ensures.ok c.loop-row.invariant
