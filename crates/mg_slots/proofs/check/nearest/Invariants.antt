use Rattle.std.proofs.Common.{ℕ, ◌≤◌}
use Rattle.mg_slots.specs.Damage.{distance}
use Rattle.mg_slots.specs.SlotField.{MayHave}
use Rattle.mg_slots.proofs.check.nearest.Given as goal

abbrev pub invariant-loop-far : goal.invariant-loop-far
invariant-loop-far l = (other : ℕ) → MayHave l.b l.slot l.field other
    → l.far ≤ distance l.found other
