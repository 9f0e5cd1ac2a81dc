use Rattle.mg_engine_change_laws.specs.given_up.Dying.{versions_die_midway}
use Rattle.mg_engine_change_laws.specs.given_up.GivenUpLaws.{given_up_is_shown}
use Rattle.mg_engine_change_laws.proofs.takings.given_up.given_up_is_shown.Goals as goal

pub returns-clause-versions : goal.returns-clause-versions
returns-clause-versions c = versions_die_midway

pub returns-clause-pages : goal.returns-clause-pages
returns-clause-pages c = given_up_is_shown c.one_reading.ensures.packed_rows c.catalogs_grow.ensures.seen
    c.versions_go_on.ensures.stay c.memory_follows.ensures.tables
