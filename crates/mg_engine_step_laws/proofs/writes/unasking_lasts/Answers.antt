use Rattle.mg_image.specs.Form.{packed_form}
use Rattle.mg_lasting_laws.specs.StepLaws.{asking_lasts}
use Rattle.mg_engine_step_laws.specs.commits.Unasked.{unasking_lasts}
use Rattle.mg_engine_step_laws.proofs.writes.unasking_lasts.Goals as goal

pub returns : goal.returns
returns g c = unasking_lasts packed_form g.row.D.Denot g.row.L.Denot g.D.Disk.meaning (asking_lasts packed_form)
