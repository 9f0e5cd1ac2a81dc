use Rattle.std.proofs.Common.{◌≡◌, ◌++◌, length}
use Rattle.mg_reading.specs.Found.{committed_of}
use Rattle.mg_reading.specs.HeldTable.{rows_shown}
use Rattle.mg_reading.proofs.held.shown_rows.Given as goal

abbrev pub invariant-loop-first : goal.invariant-loop-first
invariant-loop-first l = l.rows.items ++ rows_shown (committed_of l.image) l.rest
    ≡ rows_shown (committed_of l.image) l.found

abbrev pub decreases-loop-first : goal.decreases-loop-first
decreases-loop-first l = length l.rest
