use Rattle.std.proofs.Common.{◌≡◌}
use Rattle.mg_slots.specs.DataPage.{cell_of, taken_below}
use Rattle.mg_slots.proofs.space.all_taken.Given as goal

abbrev pub invariant-loop-slot : goal.invariant-loop-slot
invariant-loop-slot l = l.sum ≡ taken_below (cell_of l.b) l.slot
