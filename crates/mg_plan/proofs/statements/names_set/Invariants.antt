use Rattle.std.proofs.Common.{◌≡◌, map, take}
use Rattle.mg_statements.specs.Plain.{assign_of}
use Rattle.mg_plan.proofs.statements.names_set.Given as goal

abbrev pub invariant-loop-set : goal.invariant-loop-set
invariant-loop-set l = l.names.items ≡ map (λ set. set.0) (map assign_of (take l.set-index l.sets))
