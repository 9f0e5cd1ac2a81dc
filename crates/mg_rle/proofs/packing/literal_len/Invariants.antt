use Rattle.std.proofs.Common.{ℕ, ◌<◌, ◌≤◌, ◌-◌, length}
use Rattle.mg_rle.specs.declared.run.TheConstants.{MOST_LITERAL}
use Rattle.mg_rle.specs.Runs.{TripleAt}
use Rattle.mg_rle.proofs.packing.literal_len.Given as goal

abbrev pub invariant-loop-count : goal.invariant-loop-count
invariant-loop-count l = (l.count ≤ length l.plain) × (l.count ≤ MOST_LITERAL) × ((at : ℕ) → at < l.count → TripleAt l.plain at → ⊥)

abbrev pub decreases-loop-count : goal.decreases-loop-count
decreases-loop-count l = length l.plain - l.count
