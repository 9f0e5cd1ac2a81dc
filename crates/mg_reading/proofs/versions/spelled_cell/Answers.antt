use Rattle.mg_reading.proofs.CellLemmas.{spelled_is}
use Rattle.mg_reading.proofs.versions.spelled_cell.Goals as goal

pub returns-in-Ok-clause-cell : goal.returns-in-Ok-clause-cell
returns-in-Ok-clause-cell c = spelled_is c.args.bytes.now c.in-Ok.cell c.in-Ok.ensures.spelled
