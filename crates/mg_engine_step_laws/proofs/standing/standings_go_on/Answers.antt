use Rattle.mg_image.specs.Form.{packed_form}
use Rattle.mg_engine_step_laws.specs.standing.StandsLaws.{stands_on}
use Rattle.mg_engine_step_laws.proofs.standing.standings_go_on.Goals as goal

pub returns : goal.returns
returns c = stands_on packed_form c.histories_go_on.ensures.begins c.memory_follows.ensures.follows
