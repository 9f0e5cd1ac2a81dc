use Rattle.mg_image.specs.Form.{packed_form}
use Rattle.mg_engine_step_laws.specs.backs.ShownEnd.{pages_back, pages_first}
use Rattle.mg_engine_step_laws.specs.backs.ShownSteps.{pages_onward}
use Rattle.mg_engine_step_laws.proofs.backs.pages_show_what_is_taken_back.Goals as goal

pub returns-clause-first : goal.returns-clause-first
returns-clause-first c = pages_first packed_form

pub returns-clause-onward : goal.returns-clause-onward
returns-clause-onward c = pages_onward packed_form

pub returns-clause-back : goal.returns-clause-back
returns-clause-back c = pages_back packed_form
