use Rattle.mg_exec_course_laws.specs.StepLaws.{steps_tell}
use Rattle.mg_exec_course_laws.proofs.laws.steps_tell.Goals as goal

pub returns : goal.returns
returns g c = steps_tell g.R.Records.meaning
