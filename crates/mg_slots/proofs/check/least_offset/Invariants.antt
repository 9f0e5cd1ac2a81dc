use Rattle.std.proofs.Common.{◌≡◌}
use Rattle.mg_slots.specs.DataPage.{least_offset}
use Rattle.mg_slots.proofs.check.least_offset.Given as goal

abbrev pub invariant-loop-slot : goal.invariant-loop-slot
invariant-loop-slot l = l.least ≡ least_offset l.b l.slot
