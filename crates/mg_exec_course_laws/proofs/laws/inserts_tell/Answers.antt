use Rattle.mg_exec_course_laws.specs.InsertLaws.{inserts_tell}
use Rattle.mg_exec_course_laws.proofs.laws.inserts_tell.Goals as goal

pub returns : goal.returns
returns g c = inserts_tell g.R.Records.meaning
