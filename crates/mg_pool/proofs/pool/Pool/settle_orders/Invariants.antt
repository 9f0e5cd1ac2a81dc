use Rattle.std.proofs.Common.{◌≡◌, ◌<◌, ℕ, length}
use Rattle.mg_pool.specs.Change.{SettlesOrders, IsOpen}
use Rattle.mg_pool.specs.Run.{HasWritten}
use Rattle.mg_pool.proofs.pool.Pool.settle_orders.Given as goal

abbrev pub invariant-loop-place : goal.invariant-loop-place
invariant-loop-place g l = record {
  run : HasWritten g.D.Disk.meaning l.initial.self l.self;
  settles : SettlesOrders g.D.Disk.meaning l.orders.items l.initial.self l.place l.self;
  open_ : (k : ℕ) → k < l.place → IsOpen l.self.graph l.orders.items k;
  due : length l.due.items ≡ length l.orders.items;
}
