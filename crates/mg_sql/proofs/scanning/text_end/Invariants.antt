use Rattle.std.proofs.Common.{◌-◌, ℕ, length}
use Rattle.mg_sql.proofs.Quotes.{SoFar}
use Rattle.mg_sql.proofs.scanning.text_end.Given as goal

abbrev pub invariant-loop-at : goal.invariant-loop-at
invariant-loop-at l = SoFar l.text l.from l.at l.closed

abbrev pub decreases-loop-at : goal.decreases-loop-at
decreases-loop-at l = length l.text - l.at
