use Rattle.mg_exec_course_laws.specs.WriteLaws.{changes_tell}
use Rattle.mg_exec_course_laws.proofs.laws.changes_tell.Goals as goal

pub returns : goal.returns
returns g c = changes_tell g.R.Records.meaning
