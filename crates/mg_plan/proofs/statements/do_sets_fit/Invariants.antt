use Rattle.std.proofs.Common.{◌≡◌, length, map}
use Rattle.mg_statements.specs.Plain.{assign_of}
use Rattle.mg_expr.specs.Typing.{sort_of}
use Rattle.mg_plan.specs.Types.{fit_places}
use Rattle.mg_plan.proofs.statements.do_sets_fit.Given as goal

abbrev pub invariant-loop-set : goal.invariant-loop-set
invariant-loop-set l = fit_places l.columns l.places (map (λ set. sort_of set.1 l.columns) (map assign_of l.sets)) ≡ fit_places l.fn.columns l.fn.places (map (λ set. sort_of set.1 l.columns) (map assign_of l.fn.sets))

abbrev pub decreases-loop-set : goal.decreases-loop-set
decreases-loop-set l = length l.sets
