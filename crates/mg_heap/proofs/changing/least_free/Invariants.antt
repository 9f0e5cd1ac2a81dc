use Rattle.std.proofs.Common.{◌≡◌}
use Rattle.mg_slots.specs.DataPage.{cell_of}
use Rattle.mg_slots.specs.Room.{first_without}
use Rattle.mg_heap.proofs.changing.least_free.Given as goal

abbrev pub invariant-loop-slot : goal.invariant-loop-slot
invariant-loop-slot l = first_without (cell_of l.b) l.slot ≡ l.slot
