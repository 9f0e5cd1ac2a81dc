use Rattle.std.proofs.Common.{ℕ, ◌<◌}
use Rattle.mg_slots.specs.DataPage.{IsSlot}
use Rattle.mg_slots.proofs.check.check_data.Given as goal

abbrev pub invariant-loop-slot : goal.invariant-loop-slot
invariant-loop-slot l = (earlier : ℕ) → earlier < l.slot → IsSlot l.b earlier
