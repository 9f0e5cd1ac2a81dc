use Rattle.mg_exec_course_laws.specs.TableLaws.{creates_tell, retries_tell}
use Rattle.mg_exec_course_laws.proofs.laws.tables_tell.Goals as goal

pub returns-clause-creates : goal.returns-clause-creates
returns-clause-creates g c = creates_tell g.R.Records.meaning

pub returns-clause-retries : goal.returns-clause-retries
returns-clause-retries g c = retries_tell g.R.Records.meaning
