use Rattle.std.proofs.Common.{arith, rules}
use Rattle.mg_reading.proofs.DataLemmas.{cell_short}
use Rattle.mg_reading.proofs.versions.slot_cell.Goals as goal

pub spelled_cell-requires : goal.spelled_cell-requires
spelled_cell-requires c = omega (
  arith,
  cell_short c.args.page.now c.args.slot
      c.in-Some.bytes.now c.requires.lawful (search rules),
)
