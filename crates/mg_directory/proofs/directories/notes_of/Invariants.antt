use Rattle.std.proofs.Common.{◌≡◌, ◌+◌, length}
use Rattle.mg_directory.specs.Candidates.{notes_in}
use Rattle.mg_directory.proofs.directories.notes_of.Given as goal

-- the sum so far and the rest are the whole
abbrev pub invariant-loop-dir : goal.invariant-loop-dir
invariant-loop-dir l = l.total + notes_in l.rest ≡ notes_in l.tables

abbrev pub decreases-loop-dir : goal.decreases-loop-dir
decreases-loop-dir l = length l.rest
