use Rattle.std.proofs.Common.{◌≡◌, ◌<◌, ℕ, false, length, slice_index_or}
use Rattle.mg_pool.proofs.pool.orders.clear.Given as goal

abbrev pub invariant-loop-place : goal.invariant-loop-place
invariant-loop-place l = record {
  len : length l.due.items ≡ length l.initial.due.items;
  blank : (i : ℕ) → i < l.place → slice_index_or l.due.items i false ≡ false;
}
