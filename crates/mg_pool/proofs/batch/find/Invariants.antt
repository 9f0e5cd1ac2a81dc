use Rattle.std.proofs.Common.{◌≢◌, ◌<◌, ℕ, slice_index_or}
use Rattle.mg_pool.specs.declared.batch.BatchPage.{BatchPage}
use Rattle.mg_pool.proofs.batch.find.Given as goal

-- no place before the index has the page
abbrev pub invariant-loop-i : goal.invariant-loop-i
invariant-loop-i l = (k : ℕ) (d : BatchPage) → k < l.i → (slice_index_or l.pages.items k d).page ≢ l.page
