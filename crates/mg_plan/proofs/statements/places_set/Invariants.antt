use Rattle.std.proofs.Common.{◌≡◌, map, take}
use Rattle.mg_statements.specs.Plain.{assign_of}
use Rattle.mg_plan.specs.Names.{place_or_0}
use Rattle.mg_plan.proofs.statements.places_set.Given as goal

abbrev pub invariant-loop-set : goal.invariant-loop-set
invariant-loop-set l = l.places.items ≡ map (λ set. place_or_0 l.columns set.0) (map assign_of (take l.set-index l.sets))
