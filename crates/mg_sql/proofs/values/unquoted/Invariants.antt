use Rattle.std.proofs.Common.{length, ◌-◌, ◌≤◌}
use Rattle.mg_sql.proofs.Unquoting.{Half}
use Rattle.mg_sql.proofs.values.unquoted.Given as goal

abbrev pub invariant-loop-at : goal.invariant-loop-at
invariant-loop-at l = record { some : 1 ≤ l.at; half : Half l.bytes l.at l.value.items }

abbrev pub decreases-loop-at : goal.decreases-loop-at
decreases-loop-at l = length l.bytes - l.at
