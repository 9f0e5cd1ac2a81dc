use Rattle.mg_engine_step_laws.specs.tables.NamedTables.{named_tables_stand}
use Rattle.mg_engine_step_laws.specs.tables.SeenTables.{database_tables_stand, newly_seen_tables_stand, seen_tables_stand}
use Rattle.mg_engine_step_laws.proofs.tables.named_tables_stand.Goals as goal

pub returns-clause-named : goal.returns-clause-named
returns-clause-named c = named_tables_stand

pub returns-clause-database : goal.returns-clause-database
returns-clause-database c = database_tables_stand c.chains_tell.ensures.database

pub returns-clause-seen : goal.returns-clause-seen
returns-clause-seen c = seen_tables_stand c.chains_tell.ensures.views

pub returns-clause-newly : goal.returns-clause-newly
returns-clause-newly c = newly_seen_tables_stand c.chains_go_on.ensures c.chains_tell.ensures.database
