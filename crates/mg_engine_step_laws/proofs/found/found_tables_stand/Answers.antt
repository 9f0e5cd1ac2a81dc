use Rattle.mg_engine_step_laws.specs.tables.FoundWhole.{found_tables_stand}
use Rattle.mg_engine_step_laws.proofs.found.found_tables_stand.Goals as goal

pub returns : goal.returns
returns c = found_tables_stand c.records_are_those_of_every_reading.ensures.rows c.keys_are_answered.ensures.rows
    c.keys_are_answered.ensures.nothing c.newest_are_seen.ensures c.chains_tell.ensures.database
    c.chains_go_on.ensures c.catalogs_grow.ensures.own c.catalogs_grow.ensures.within c.tables_are_answered.ensures
