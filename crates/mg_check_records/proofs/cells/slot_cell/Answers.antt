use Rattle.std.proofs.Common.{arith}
use Rattle.mg_check_records.proofs.CellLemmas.{cell_short}
use Rattle.mg_check_records.proofs.cells.slot_cell.Goals as goal

pub spelled_cell-requires-clause-short : goal.spelled_cell-requires-clause-short
spelled_cell-requires-clause-short c = omega (
  arith,
  cell_short c.args.page.now c.args.slot c.in-Some.bytes.now c.requires.lawful c.in-Some.ensures,
)
