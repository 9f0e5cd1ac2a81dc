use Rattle.std.proofs.Common.{◌≡◌, length, map}
use Rattle.std.specs.List.{list_any}
use Rattle.mg_statements.specs.Plain.{assign_of}
use Rattle.mg_plan.specs.Names.{place_of}
use Rattle.mg_plan.specs.Statements.{is_place}
use Rattle.mg_plan.proofs.statements.do_sets_key.Given as goal

abbrev pub invariant-loop-set : goal.invariant-loop-set
invariant-loop-set l = list_any (λ set. is_place l.key (place_of l.columns set.0)) (map assign_of l.rest) ≡ list_any (λ set. is_place l.key (place_of l.columns set.0)) (map assign_of l.sets)

abbrev pub decreases-loop-set : goal.decreases-loop-set
decreases-loop-set l = length l.rest
