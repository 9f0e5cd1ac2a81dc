use Rattle.std.proofs.Common.{◌≡◌, length, map}
use Rattle.std.specs.List.{list_all}
use Rattle.mg_statements.specs.Plain.{total_of}
use Rattle.mg_plan.specs.Statements.{is_total_known}
use Rattle.mg_plan.proofs.statements.are_totals_known.Given as goal

abbrev pub invariant-loop-total : goal.invariant-loop-total
invariant-loop-total l = list_all (is_total_known l.columns) (map total_of l.rest) ≡ list_all (is_total_known l.columns) (map total_of l.totals)

abbrev pub decreases-loop-total : goal.decreases-loop-total
decreases-loop-total l = length l.rest
