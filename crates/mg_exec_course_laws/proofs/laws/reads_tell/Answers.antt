use Rattle.mg_exec_course_laws.specs.ReadLaws.{reads_tell}
use Rattle.mg_exec_course_laws.proofs.laws.reads_tell.Goals as goal

pub returns : goal.returns
returns g c = reads_tell g.R.Records.meaning
