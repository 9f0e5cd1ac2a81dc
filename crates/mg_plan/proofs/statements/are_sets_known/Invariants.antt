use Rattle.std.proofs.Common.{◌≡◌, ◌&&◌, length, map}
use Rattle.std.specs.List.{list_all}
use Rattle.mg_statements.specs.Plain.{assign_of}
use Rattle.mg_plan.specs.Names.{is_column}
use Rattle.mg_plan.specs.Binding.{is_known}
use Rattle.mg_plan.proofs.statements.are_sets_known.Given as goal

abbrev pub invariant-loop-set : goal.invariant-loop-set
invariant-loop-set l = list_all (λ set. is_column l.columns set.0 && is_known set.1 l.columns) (map assign_of l.rest) ≡ list_all (λ set. is_column l.columns set.0 && is_known set.1 l.columns) (map assign_of l.sets)

abbrev pub decreases-loop-set : goal.decreases-loop-set
decreases-loop-set l = length l.rest
