use Rattle.std.proofs.Common.{◌≡◌, false, replicate}
use Rattle.mg_careful.proofs.rows.blank_rows.Given as goal

abbrev pub invariant-loop : goal.invariant-loop
invariant-loop l = l.rows.items ≡ replicate l.counter (replicate l.size false)
