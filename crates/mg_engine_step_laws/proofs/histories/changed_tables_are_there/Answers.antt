use Rattle.mg_engine_step_laws.specs.tables_back.ChangedTablesLaws.{changed_are_there, none_of_gone}
use Rattle.mg_engine_step_laws.proofs.histories.changed_tables_are_there.Goals as goal

pub returns-clause-there : goal.returns-clause-there
returns-clause-there c = changed_are_there c.catalogs_grow.ensures.stay c.catalogs_grow.ensures.within

pub returns-clause-gone : goal.returns-clause-gone
returns-clause-gone c = none_of_gone c.catalogs_grow.ensures.stay c.catalogs_grow.ensures.within
    c.catalogs_grow.ensures.own
