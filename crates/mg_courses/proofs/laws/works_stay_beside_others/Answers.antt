use Rattle.mg_courses.specs.BesideLaws.{works_stay_ready, works_stay_at}
use Rattle.mg_courses.proofs.laws.works_stay_beside_others.Goals as goal

pub returns-clause-ready : goal.returns-clause-ready
returns-clause-ready g c =
    works_stay_ready g.R.Records.meaning g.R.Statements.runs g.met.R.Statements.stay

pub returns-clause-at : goal.returns-clause-at
returns-clause-at g c =
    works_stay_at g.R.Records.meaning g.R.Statements.runs g.met.R.Statements.courses
