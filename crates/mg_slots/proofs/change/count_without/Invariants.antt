use Rattle.std.proofs.Common.{◌≡◌, ◌≤◌, None}
use Rattle.mg_slots.specs.DataPage.{cell_of, slot_count}
use Rattle.mg_slots.specs.Layout.{with_cell}
use Rattle.mg_slots.specs.Room.{used_end}
use Rattle.mg_slots.proofs.change.count_without.Given as goal

abbrev pub invariant-loop-count : goal.invariant-loop-count
invariant-loop-count l = record {
  within : l.count ≤ slot_count l.b;
  same_end : used_end (with_cell (cell_of l.b) l.slot None) l.count ≡ used_end (with_cell
      (cell_of l.b) l.slot None) (slot_count l.b);
}

abbrev pub decreases-loop-count : goal.decreases-loop-count
decreases-loop-count l = l.count
