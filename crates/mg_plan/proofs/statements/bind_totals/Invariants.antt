use Rattle.std.proofs.Common.{◌≡◌, map, take}
use Rattle.mg_statements.specs.Plain.{total_of}
use Rattle.mg_plan.specs.Statements.{bound_total}
use Rattle.mg_plan.proofs.statements.bind_totals.Given as goal

abbrev pub invariant-loop-total : goal.invariant-loop-total
invariant-loop-total l = map total_of l.bound.items ≡ map (bound_total l.columns) (map total_of (take l.total-index l.totals))
