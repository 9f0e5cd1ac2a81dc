use Rattle.std.proofs.Common.{◌<◌, ℕ, ◌||◌, ◌==◌, [], slice_index_or}
use Rattle.mg_careful.specs.Rows.{bit}
use Rattle.mg_careful.proofs.RowsLemmas.{RestIs, Joined}
use Rattle.mg_careful.proofs.rows.join_into.Given as goal

-- the rows above the index are joined, and the others are as they were
abbrev pub invariant-loop-i : goal.invariant-loop-i
invariant-loop-i l =
    RestIs l.size l.i l.after.items l.initial.after.items
    × ((a : ℕ) → a < l.i → Joined (slice_index_or l.initial.after.items a []) l.row (slice_index_or l.after.items a []) (a == l.first || bit l.initial.after.items a l.first))
