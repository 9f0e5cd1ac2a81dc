use Rattle.mg_engine_change_laws.specs.keys.BackTablesLaws.{its_tables_may_be_written}
use Rattle.mg_engine_change_laws.proofs.takings.keys.its_tables_may_be_written.Goals as goal

pub returns : goal.returns
returns c = its_tables_may_be_written c.one_reading.ensures.packed_rows c.names_tell_tables.ensures
