use Rattle.std.proofs.Common.{◌≡◌, ◌≤◌, ◌+◌, ◌*◌, length}
use Rattle.std.specs.List.{sum_by}
use Rattle.mg_image.specs.NewDatabase.{with_cells}
use Rattle.mg_slots.specs.declared.page.TheConstants.{SLOTS_AT, SLOT_LEN}
use Rattle.mg_soundness.proofs.new_catalog.put_cells.Given as goal

abbrev pub invariant-loop-cell : goal.invariant-loop-cell
invariant-loop-cell l = record {
  len : length l.b ≡ length l.initial.b;
  room : SLOTS_AT + SLOT_LEN * (l.slot + length l.rest) + sum_by (λ cell. length cell) l.rest
      ≤ l.end;
  inside : l.end ≤ length l.b;
  same : with_cells l.b l.slot l.end l.rest
      ≡ with_cells l.initial.b 0 (length l.initial.b) l.cells;
}

abbrev pub decreases-loop-cell : goal.decreases-loop-cell
decreases-loop-cell l = length l.rest
