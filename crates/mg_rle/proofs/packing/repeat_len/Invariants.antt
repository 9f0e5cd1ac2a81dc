use Rattle.std.proofs.Common.{◌≡◌, ℕ, ◌<◌, ◌≤◌, ◌-◌, length}
use Rattle.mg_base.specs.Fields.{byte}
use Rattle.mg_rle.specs.declared.run.TheConstants.{MOST_REPEAT}
use Rattle.mg_rle.proofs.packing.repeat_len.Given as goal

abbrev pub invariant-loop-count : goal.invariant-loop-count
invariant-loop-count l = (0 < l.count) × (l.count ≤ length l.plain) × (l.count ≤ MOST_REPEAT) × ((at : ℕ) → at < l.count → byte l.plain at ≡ byte l.plain 0)

abbrev pub decreases-loop-count : goal.decreases-loop-count
decreases-loop-count l = length l.plain - l.count
