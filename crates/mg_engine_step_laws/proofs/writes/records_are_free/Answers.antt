use Rattle.mg_engine_step_laws.specs.writes.Free.{records_are_free}
use Rattle.mg_engine_step_laws.proofs.writes.records_are_free.Goals as goal

pub returns : goal.returns
returns c = records_are_free c.records_are_those_of_every_reading.ensures.obstacles
