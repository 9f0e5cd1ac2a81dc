use Rattle.mg_engine_step_laws.specs.tables.ChosenTables.{chosen_tables_stand}
use Rattle.mg_engine_step_laws.proofs.found.chosen_tables_stand.Goals as goal

pub returns : goal.returns
returns c = chosen_tables_stand c.chains_tell.ensures.database c.catalogs_grow.ensures.own
