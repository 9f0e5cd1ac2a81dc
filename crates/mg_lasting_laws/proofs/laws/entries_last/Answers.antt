use Rattle.mg_image.specs.Form.{packed_form}
use Rattle.mg_lasting_laws.specs.StepLaws.{asking_lasts, begins_first, idle_lasts, rollback_lasts}
use Rattle.mg_lasting_laws.proofs.laws.entries_last.Goals as goal

pub returns-clause-idle : goal.returns-clause-idle
returns-clause-idle c = idle_lasts packed_form

pub returns-clause-rollback : goal.returns-clause-rollback
returns-clause-rollback c = rollback_lasts packed_form

pub returns-clause-asking : goal.returns-clause-asking
returns-clause-asking c = asking_lasts packed_form

pub returns-clause-begin : goal.returns-clause-begin
returns-clause-begin c = begins_first packed_form
