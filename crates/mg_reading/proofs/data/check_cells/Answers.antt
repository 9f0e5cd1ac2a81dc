use Rattle.std.proofs.Common.{arith, rules}
use Rattle.mg_slots.specs.DataPageLaws.{used_of_some}
use Rattle.mg_reading.proofs.DataLemmas.{cell_short}
use Rattle.mg_reading.proofs.data.check_cells.Goals as goal

pub check_cell-requires : goal.check_cell-requires
check_cell-requires c = omega (
  arith,
  cell_short c.args.page.now c.loop-slot.slot
      c.in-Some.bytes.now c.requires (search rules),
)

pub returns-clause-cells : goal.returns-clause-cells
returns-clause-cells c = λ slot bytes is.
    let used = used_of_some c.args.page.now slot bytes is in
    c.loop-slot.invariant slot bytes (omega (arith, used.0, c.slots-slot-end.ensures)) is
