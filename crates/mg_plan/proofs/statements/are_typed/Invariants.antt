use Rattle.std.proofs.Common.{◌≡◌, length, map}
use Rattle.std.specs.List.{list_all}
use Rattle.mg_expr.specs.Trees.{tree_of}
use Rattle.mg_expr.specs.Typing.{fits_value, sort_of}
use Rattle.mg_plan.proofs.statements.are_typed.Given as goal

abbrev pub invariant-loop-value : goal.invariant-loop-value
invariant-loop-value l = list_all (λ t. fits_value (sort_of t l.columns)) (map tree_of l.rest) ≡ list_all (λ t. fits_value (sort_of t l.columns)) (map tree_of l.values)

abbrev pub decreases-loop-value : goal.decreases-loop-value
decreases-loop-value l = length l.rest
