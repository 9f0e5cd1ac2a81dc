use Rattle.std.proofs.Common.{◌≡◌, ℕ, ◌<◌}
use Rattle.mg_pip.specs.PipPage.{bit_of}
use Rattle.mg_pip.proofs.bits.first_open_bit.Given as goal

abbrev pub invariant-loop-place : goal.invariant-loop-place
invariant-loop-place l = (other : ℕ) → other < l.place → bit_of l.byte other ≡ 1
