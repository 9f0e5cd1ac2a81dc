use Rattle.mg_tie_laws.specs.RowsMade.{rows_are_entries}
use Rattle.mg_tie_laws.proofs.tables.rows_are_entries.Goals as goal

pub returns : goal.returns
returns c = rows_are_entries
