use Rattle.mg_image.specs.Form.{packed_form}
use Rattle.mg_engine_step_laws.specs.writes.WritesLaws.{writes_show_on, writes_stand}
use Rattle.mg_engine_step_laws.proofs.steps.writes_stand.Goals as goal

pub returns-clause-pages : goal.returns-clause-pages
returns-clause-pages c = writes_show_on packed_form c.histories_go_on.ensures.begins

pub returns-clause-engine : goal.returns-clause-engine
returns-clause-engine c = writes_stand packed_form c.histories_go_on.ensures.begins c.standings_go_on.ensures
