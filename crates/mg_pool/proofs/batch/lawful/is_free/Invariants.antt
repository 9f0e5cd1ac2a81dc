use Rattle.std.proofs.Common.{◌≡◌, ◌<◌, ℕ}
use Rattle.mg_pool.specs.Batch.{order_at}
use Rattle.mg_pool.specs.Lawful.{IsWaiting}
use Rattle.mg_pool.proofs.batch.lawful.is_free.Given as goal

-- no order before the place has a page that waits before this one
abbrev pub invariant-loop-place : goal.invariant-loop-place
invariant-loop-place l = (k : ℕ) → k < l.place → (order_at l.orders.items k).later ≡ l.page → IsWaiting l.pages.items l.marks (order_at l.orders.items k).first → ⊥
