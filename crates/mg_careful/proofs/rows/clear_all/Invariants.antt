use Rattle.std.proofs.Common.{◌<◌, ℕ, [], slice_index_or}
use Rattle.mg_careful.proofs.RowsLemmas.{RestIs, Cleared}
use Rattle.mg_careful.proofs.rows.clear_all.Given as goal

-- the rows above the index are blank, and the others are as they were
abbrev pub invariant-loop-i : goal.invariant-loop-i
invariant-loop-i l =
    RestIs l.size l.i l.rows.items l.initial.rows.items
    × ((a : ℕ) → a < l.i → Cleared (slice_index_or l.initial.rows.items a []) (slice_index_or l.rows.items a []))
