use Rattle.std.proofs.Common.{◌≢◌, ◌<◌, ℕ, slice_index_or}
use Rattle.mg_directory.specs.Candidates.{Noted}
use Rattle.mg_directory.proofs.directories.place_of.Given as goal

-- no place before this one is the table's
abbrev pub invariant-loop-place : goal.invariant-loop-place
invariant-loop-place l = (k : ℕ) (d : Noted) → k < l.place
    → (slice_index_or l.tables.items k d).first ≢ l.first
