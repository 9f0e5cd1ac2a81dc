use Rattle.std.proofs.Common.{◌≢◌, ◌<◌, ℕ, None, slice_index_or}
use Rattle.mg_careful.proofs.places.find_free.Given as goal

-- every place above the index has a page
abbrev pub invariant-loop-i : goal.invariant-loop-i
invariant-loop-i l = (k : ℕ) → k < l.i → slice_index_or l.pages.items k None ≢ None
