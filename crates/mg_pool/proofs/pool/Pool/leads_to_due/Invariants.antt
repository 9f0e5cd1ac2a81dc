use Rattle.std.proofs.Common.{◌≡◌, ◌<◌, ℕ, true, false, slice_index_or}
use Rattle.mg_careful.specs.Graph.{is_ordered}
use Rattle.mg_pool.specs.Batch.{IsOrPrecedes, order_at}
use Rattle.mg_pool.proofs.pool.Pool.leads_to_due.Given as goal

-- no order before the place that is due has such a first page
abbrev pub invariant-loop-place : goal.invariant-loop-place
invariant-loop-place g l = (k : ℕ) → k < l.place → slice_index_or l.due.items k false ≡ true → IsOrPrecedes (is_ordered l.self.graph) l.page (order_at l.orders.items k).first → ⊥
