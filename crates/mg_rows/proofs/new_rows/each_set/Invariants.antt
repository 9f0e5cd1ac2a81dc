use Rattle.std.proofs.Common.{◌≡◌, map, drop}
use Rattle.mg_expr.specs.Trees.{tree_of}
use Rattle.mg_rows.specs.Selecting.{each_of, tree_value}
use Rattle.mg_rows.proofs.EachLemmas.{fronted}
use Rattle.mg_rows.proofs.new_rows.each_set.Given as goal

-- the values so far and those to come are all
abbrev pub invariant-loop-set : goal.invariant-loop-set
invariant-loop-set l =
    fronted l.out.items (each_of (λ t. tree_value t l.row) (map (λ set. tree_of set.value) (drop l.set-index l.sets))) ≡ each_of (λ t. tree_value t l.row) (map (λ set. tree_of set.value) l.sets)
