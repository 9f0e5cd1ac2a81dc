use Rattle.std.proofs.Common.{◌≡◌, ℕ, ◌+◌, ◌<◌, length}
use Rattle.std.specs.Option.{option_copied}
use Rattle.mg_base.specs.Fields.{byte}
use Rattle.mg_slots.specs.declared.page.TheConstants.{SLOTS_AT}
use Rattle.mg_slots.specs.DataPage.{IsLaid, cell_of, taken_below}
use Rattle.mg_slots.specs.Layout.{with_cell}
use Rattle.mg_slots.proofs.layout.lay_out.Given as goal

abbrev pub invariant-loop-at : goal.invariant-loop-at
invariant-loop-at l = record {
  laid : IsLaid l.b (with_cell (cell_of l.old) l.slot (option_copied l.new_cell)) l.at;
  low : l.low + taken_below (with_cell (cell_of l.old) l.slot
      (option_copied l.new_cell)) l.at ≡ length l.b;
  front : (k : ℕ) → k < SLOTS_AT → byte l.b k ≡ byte l.initial.b k;
}
