use Rattle.mg_image.specs.Form.{packed_form}
use Rattle.mg_lasting_laws.specs.StepLaws.{batch_lasts, writes_last}
use Rattle.mg_lasting_laws.proofs.laws.pages_last.Goals as goal

pub returns-clause-writes : goal.returns-clause-writes
returns-clause-writes c = writes_last packed_form

pub returns-clause-batch : goal.returns-clause-batch
returns-clause-batch c = batch_lasts packed_form
