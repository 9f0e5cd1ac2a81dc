use Rattle.std.proofs.Common.{ℕ, ◌<◌, ◌≤◌, ◌+◌, ◌-◌}
use Rattle.mg_rle.specs.Runs.{TripleAt}
use Rattle.mg_rle.proofs.unpacking.has_triple.Given as goal

-- no three equal bytes begin between `from` and the place that is reached
abbrev pub invariant-loop-at : goal.invariant-loop-at
invariant-loop-at l = (l.from ≤ l.at) × ((at : ℕ) → l.from ≤ at → at < l.at → at + 2 < l.end → TripleAt l.bytes at → ⊥)

abbrev pub decreases-loop-at : goal.decreases-loop-at
decreases-loop-at l = l.end - l.at
