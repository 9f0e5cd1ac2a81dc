use Rattle.std.proofs.Common.{take}
use Rattle.mg_pool.specs.Change.{EntersOrders}
use Rattle.mg_pool.proofs.pool.Pool.enter_orders.Given as goal

abbrev pub invariant-loop-place : goal.invariant-loop-place
invariant-loop-place g l = EntersOrders g.D.Disk.meaning (take l.place l.orders.items) l.initial.self l.self
