use Rattle.std.proofs.Common.{◌≡◌, ◌<◌, ℕ, false, slice_index_or}
use Rattle.mg_pool.specs.Lawful.{page_in}
use Rattle.mg_pool.proofs.batch.lawful.is_waiting.Given as goal

-- no place before this one has the page without mark
abbrev pub invariant-loop-place : goal.invariant-loop-place
invariant-loop-place l = (i : ℕ) → i < l.place → page_in l.pages.items i ≡ l.page → slice_index_or l.marks i false ≡ false → ⊥
