use Rattle.mg_engine_change_laws.specs.tables.NewTable.{rows_say_table}
use Rattle.mg_engine_change_laws.proofs.makings.rows.new_rows_say_a_table.Goals as goal

pub returns : goal.returns
returns c = rows_say_table
