use Rattle.std.proofs.Common.{◌≡◌, ◌≤◌, length, vec_capacity}
use Rattle.mg_pool.specs.Dirty.{IsSpare}
use Rattle.mg_pool.proofs.dirty.buffers.Given as goal

abbrev pub invariant-loop : goal.invariant-loop
invariant-loop l = (length l.spare.items ≡ l.counter) × IsSpare l.size l.spare.items × (l.room ≤ vec_capacity l.spare)
