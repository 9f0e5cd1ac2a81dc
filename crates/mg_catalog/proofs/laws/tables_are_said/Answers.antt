use Rattle.mg_catalog.specs.RowsSaidLaws.{said_there}
use Rattle.mg_catalog.proofs.laws.tables_are_said.Goals as goal

pub returns : goal.returns
returns c = said_there
