use Rattle.std.proofs.Common.{◌≡◌, [], length, map}
use Rattle.mg_expr.specs.Trees.{tree_of}
use Rattle.mg_expr.specs.Typing.{sort_of}
use Rattle.mg_plan.specs.Types.{fit_places}
use Rattle.mg_plan.proofs.statements.do_values_fit.Given as goal

abbrev pub invariant-loop-value : goal.invariant-loop-value
invariant-loop-value l = fit_places l.columns l.places (map (λ t. sort_of t []) (map tree_of l.values)) ≡ fit_places l.fn.columns l.fn.places (map (λ t. sort_of t []) (map tree_of l.fn.values))

abbrev pub decreases-loop-value : goal.decreases-loop-value
decreases-loop-value l = length l.values
