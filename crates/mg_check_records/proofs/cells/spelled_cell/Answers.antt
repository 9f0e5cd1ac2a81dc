use Rattle.mg_check_records.proofs.CellLemmas.{never_refused, spelled_is}
use Rattle.mg_check_records.proofs.cells.spelled_cell.Goals as goal

pub returns-in-Ok : goal.returns-in-Ok
returns-in-Ok c = spelled_is c.args.bytes.now c.in-Ok.cell c.in-Ok.ensures.spelled
