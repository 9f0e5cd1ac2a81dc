use Rattle.mg_image.specs.Form.{packed_form}
use Rattle.mg_engine_step_laws.specs.standing.EndingLaws.{writes_show}
use Rattle.mg_engine_step_laws.specs.standing.ShowsLaws.{shows_on}
use Rattle.mg_engine_step_laws.proofs.standing.pages_go_on.Goals as goal

pub returns-clause-unchanged : goal.returns-clause-unchanged
returns-clause-unchanged c = shows_on packed_form

pub returns-clause-written : goal.returns-clause-written
returns-clause-written c = writes_show packed_form
