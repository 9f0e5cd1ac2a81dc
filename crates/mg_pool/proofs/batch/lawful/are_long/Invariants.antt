use Rattle.std.proofs.Common.{◌≡◌, ◌<◌, ℕ, length, slice_index_or}
use Rattle.mg_pool.specs.declared.batch.BatchPage.{BatchPage}
use Rattle.mg_pool.proofs.batch.lawful.are_long.Given as goal

-- each content before the place is long
abbrev pub invariant-loop-place : goal.invariant-loop-place
invariant-loop-place l = (i : ℕ) (d : BatchPage) → i < l.place → length (slice_index_or l.pages.items i d).bytes ≡ l.size
