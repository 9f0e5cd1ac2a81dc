use Rattle.std.proofs.Common.{◌≡◌, ◌<◌, ℕ, true}
use Rattle.mg_pool.specs.Batch.{is_in, order_at}
use Rattle.mg_pool.proofs.batch.lawful.has_each_later.Given as goal

-- the later page of each order before the place is in the batch
abbrev pub invariant-loop-place : goal.invariant-loop-place
invariant-loop-place l = (k : ℕ) → k < l.place → is_in l.pages.items (order_at l.orders.items k).later ≡ true
