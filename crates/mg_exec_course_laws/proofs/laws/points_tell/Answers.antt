use Rattle.mg_exec_course_laws.specs.PointLaws.{returns_tell, saves_tell}
use Rattle.mg_exec_course_laws.proofs.laws.points_tell.Goals as goal

pub returns-clause-saves : goal.returns-clause-saves
returns-clause-saves g c = saves_tell g.R.Records.meaning

pub returns-clause-returns : goal.returns-clause-returns
returns-clause-returns g c = returns_tell g.R.Records.meaning
