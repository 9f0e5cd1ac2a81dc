use Rattle.std.proofs.Common.{◌≢◌, ◌<◌, ℕ, slice_index_or}
use Rattle.mg_pool.specs.DirtyPage.{DirtyPage}
use Rattle.mg_pool.proofs.dirty.search.Given as goal

-- no place before the index has the page
abbrev pub invariant-loop-i : goal.invariant-loop-i
invariant-loop-i g l = (k : ℕ) (d : DirtyPage) → k < l.i → (slice_index_or l.pages.items k d).page ≢ l.page
