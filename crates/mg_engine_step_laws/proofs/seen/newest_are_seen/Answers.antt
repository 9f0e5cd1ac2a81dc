use Rattle.mg_engine_step_laws.specs.tables.SeenLaws.{newest_is_seen}
use Rattle.mg_engine_step_laws.proofs.seen.newest_are_seen.Goals as goal

pub returns : goal.returns
returns c = newest_is_seen c.catalogs_grow.ensures.within c.catalogs_grow.ensures.own
