use Rattle.std.proofs.Common.{◌≢◌, ◌<◌, ℕ, Some, None, slice_index_or}
use Rattle.mg_careful.proofs.places.find.Given as goal

-- no place above the index has the page
abbrev pub invariant-loop-i : goal.invariant-loop-i
invariant-loop-i l = (k : ℕ) → k < l.i → slice_index_or l.pages.items k None ≢ Some l.page
