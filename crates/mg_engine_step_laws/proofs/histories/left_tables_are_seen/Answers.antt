use Rattle.mg_engine_step_laws.specs.tables_back.ShapesLeftLaws.{shapes_left}
use Rattle.mg_engine_step_laws.proofs.histories.left_tables_are_seen.Goals as goal

pub returns : goal.returns
returns c = shapes_left c.catalogs_grow.ensures.within c.catalogs_grow.ensures.own
