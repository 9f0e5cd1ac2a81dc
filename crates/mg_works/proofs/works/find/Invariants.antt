use Rattle.std.proofs.Common.{◌≢◌, ◌<◌, ℕ, slice_index_or}
use Rattle.mg_works.specs.Works.{Working}
use Rattle.mg_works.proofs.works.find.Given as goal

-- no place before this one is the transaction's
abbrev pub invariant-loop-place : goal.invariant-loop-place
invariant-loop-place l = (k : ℕ) (d : Working) → k < l.place → (slice_index_or l.works.items k d).number ≢ l.t.0
