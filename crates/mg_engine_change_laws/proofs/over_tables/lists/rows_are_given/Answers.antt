use Rattle.mg_engine_change_laws.specs.tables_back.RowsGivenLaws.{given_apart, rows_are_left}
use Rattle.mg_engine_change_laws.proofs.over_tables.lists.rows_are_given.Goals as goal

pub returns-clause-apart : goal.returns-clause-apart
returns-clause-apart c = given_apart

pub returns-clause-left : goal.returns-clause-left
returns-clause-left c = rows_are_left
