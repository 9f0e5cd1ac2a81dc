use Rattle.mg_pool.proofs.OrderLemmas.{DueSoFar}
use Rattle.mg_pool.proofs.pool.Pool.write_due.Given as goal

abbrev pub invariant-loop-place : goal.invariant-loop-place
invariant-loop-place g l = DueSoFar g.D.Disk.meaning l.orders.items l.due.items l.goal l.fn.self l.place l.self
