use Rattle.mg_image.specs.Form.{packed_form}
use Rattle.mg_engine_step_laws.specs.standing.StartLaws.{stands_first}
use Rattle.mg_engine_step_laws.proofs.standing.standings_begin.Goals as goal

pub returns : goal.returns
returns c = stands_first packed_form c.histories_go_on.ensures.begins c.memory_follows.ensures.begins
