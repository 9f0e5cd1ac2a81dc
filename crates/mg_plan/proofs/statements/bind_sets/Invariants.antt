use Rattle.std.proofs.Common.{◌≡◌, map, take}
use Rattle.mg_statements.specs.Plain.{assign_of}
use Rattle.mg_plan.specs.Binding.{bound}
use Rattle.mg_plan.proofs.statements.bind_sets.Given as goal

abbrev pub invariant-loop-set : goal.invariant-loop-set
invariant-loop-set l = map assign_of l.bound.items ≡ map (λ set. (set.0, bound set.1 l.columns)) (map assign_of (take l.set-index l.sets))
