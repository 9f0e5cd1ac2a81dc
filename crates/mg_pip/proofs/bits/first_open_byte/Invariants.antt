use Rattle.std.proofs.Common.{◌≡◌, ℕ, ◌<◌, ◌≤◌}
use Rattle.mg_base.specs.Fields.{byte}
use Rattle.mg_pip.proofs.bits.first_open_byte.Given as goal

abbrev pub invariant-loop-at : goal.invariant-loop-at
invariant-loop-at l = (before : ℕ) → 16 ≤ before → before < l.at → byte l.b before ≡ 255
