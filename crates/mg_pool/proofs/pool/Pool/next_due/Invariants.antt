use Rattle.std.proofs.Common.{◌≡◌, ◌<◌, ℕ, true, false, slice_index_or}
use Rattle.mg_pool.specs.Batch.{Leads, order_at}
use Rattle.mg_pool.proofs.pool.Pool.next_due.Given as goal

-- every order before the place whose later page leads to the goal is due
abbrev pub invariant-loop-place : goal.invariant-loop-place
invariant-loop-place g l = (k : ℕ) → k < l.place → Leads l.self.graph l.orders.items l.due.items (order_at l.orders.items k).later l.goal → slice_index_or l.due.items k false ≡ true
