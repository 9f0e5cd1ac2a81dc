use Rattle.std.proofs.Common.{◌≡◌, ◌<◌, ℕ, false, slice_index_or}
use Rattle.mg_pool.specs.Lawful.{page_in, IsFree}
use Rattle.mg_pool.proofs.batch.lawful.next_free.Given as goal

-- no page before the place is free, if it is without mark
abbrev pub invariant-loop-place : goal.invariant-loop-place
invariant-loop-place l = (i : ℕ) → i < l.place → slice_index_or l.marks i false ≡ false → IsFree l.pages.items l.orders.items l.marks (page_in l.pages.items i) → ⊥
