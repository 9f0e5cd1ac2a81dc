use Rattle.std.proofs.Common.{◌≡◌, ◌<◌, ◌-◌, ℕ, true, false, length, take, slice_index_or}
use Rattle.std.specs.Prelude.{count_by}
use Rattle.mg_careful.specs.Precedence.{Precedes}
use Rattle.mg_pool.specs.Batch.{joint, order_at}
use Rattle.mg_pool.proofs.pool.Pool.mark_due.Given as goal

abbrev pub invariant-loop-place : goal.invariant-loop-place
invariant-loop-place g l = record {
  as_long : length l.due.items ≡ length l.orders.items;
  sound : (i : ℕ) → slice_index_or l.due.items i false ≡ true
      → (i < l.count) × Precedes (joint l.self.graph (take l.count l.orders.items)) (order_at l.orders.items i).first l.goal;
}

-- each turn marks one more
abbrev pub decreases-loop-place : goal.decreases-loop-place
decreases-loop-place g l = length l.due.items - count_by (λ b. b) l.due.items
