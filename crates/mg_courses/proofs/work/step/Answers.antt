use Rattle.mg_courses.specs.Running.{refusal_told}
use Rattle.mg_courses.proofs.StepLemmas.{statement_done}
use Rattle.mg_courses.proofs.work.step.Goals as goal

pub returns-in-Statement-clause-steps : goal.returns-in-Statement-clause-steps
returns-in-Statement-clause-steps g c = λ o h course stands active at_work.
    let at_run = rw c.in-Statement.is at at_work in
    statement_done g.R.Records.meaning g.R.Statements.runs g.met.R.Records.lasts c.args.r.now c.step.new.self o h
    c.args.t course c.step.new.run c.step.result (refusal_told c.step.result)
    (g.met.R.Statements.no_commits c.args.r.now o h c.args.t c.in-Statement.run' course at_run)
    c.step.ensures.frames c.step.ensures.holds (c.step.ensures.undamaged o h course stands active at_run)
    (c.step.ensures.crash o h course stands active at_run)
    (c.step.ensures.steps o h course stands active at_run)
