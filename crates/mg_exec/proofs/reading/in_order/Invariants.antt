use Rattle.std.proofs.Common.{◌≡◌, map}
use Rattle.mg_exec.proofs.reading.in_order.Given as goal

abbrev pub invariant-loop-row : goal.invariant-loop-row
invariant-loop-row l = l.rows.items ≡ map (λ r. r.1) l.yielded
