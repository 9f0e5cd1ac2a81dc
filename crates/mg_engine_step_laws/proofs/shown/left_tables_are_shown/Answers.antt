use Rattle.mg_engine_step_laws.specs.tables_back.LeftShows.{shows_left}
use Rattle.mg_engine_step_laws.proofs.shown.left_tables_are_shown.Goals as goal

pub returns : goal.returns
returns c = shows_left c.one_reading.ensures.packed_rows (λ page n is. is) c.memory_follows.ensures.tables
    c.catalogs_grow.ensures.within c.catalogs_grow.ensures.own c.catalogs_grow.ensures.seen
    c.changed_tables_are_there.ensures.there c.changed_tables_are_there.ensures.gone
