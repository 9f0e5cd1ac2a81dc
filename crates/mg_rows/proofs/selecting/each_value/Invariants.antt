use Rattle.std.proofs.Common.{◌≡◌, map, drop}
use Rattle.mg_expr.specs.Trees.{tree_of}
use Rattle.mg_rows.specs.Selecting.{each_of, tree_value}
use Rattle.mg_rows.proofs.EachLemmas.{fronted}
use Rattle.mg_rows.proofs.selecting.each_value.Given as goal

-- the values so far and those to come are all
abbrev pub invariant-loop-e : goal.invariant-loop-e
invariant-loop-e l =
    fronted l.out.items (each_of (λ t. tree_value t l.row) (map tree_of (drop l.e-index l.values))) ≡ each_of (λ t. tree_value t l.row) (map tree_of l.values)
