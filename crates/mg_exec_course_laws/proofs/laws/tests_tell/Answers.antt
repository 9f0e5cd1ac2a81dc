use Rattle.mg_exec_course_laws.specs.TestLaws.{tests_tell}
use Rattle.mg_exec_course_laws.proofs.laws.tests_tell.Goals as goal

pub returns : goal.returns
returns g c = tests_tell g.R.Records.meaning
