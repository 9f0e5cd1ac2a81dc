use Rattle.mg_courses.proofs.AsideLemmas.{behind_done, behind_frames, behind_nearer, behind_ready, behind_sessions}
use Rattle.mg_courses.proofs.aside.step_on.Goals as goal

pub returns-clause-steps : goal.returns-clause-steps
returns-clause-steps g c = λ o h course stands active at.
    behind_done g.R.Records.meaning g.R.Statements.runs g.met.R.Records.lasts g.met.R.Statements.stay
    g.met.R.Statements.courses g.R.Tends.collected c.args.r.now c.step-stepped.new.r c.collect_behind.new.r c.args.t
    c.args.work.now c.step-stepped.new.work o h course c.step-stepped.result c.collect_behind.result
    c.collect_behind.ensures active (c.step-stepped.ensures.steps o h course stands active at)

pub returns-clause-collects : goal.returns-clause-collects
returns-clause-collects g c = record {
  between = c.step-stepped.new.r;
  first = c.step-stepped.result;
  step = c.step-stepped.ensures.steps;
  behind = c.collect_behind.ensures;
}

pub returns-clause-ready : goal.returns-clause-ready
returns-clause-ready g c =
    behind_ready g.R.Records.meaning g.R.Statements.runs g.met.R.Records.lasts g.met.R.Statements.stay
    g.met.R.Statements.courses g.R.Tends.collected c.args.r.now c.step-stepped.new.r c.collect_behind.new.r c.args.t
    c.args.work.now c.step-stepped.new.work c.step-stepped.result c.collect_behind.result c.collect_behind.ensures
    c.step-stepped.ensures.ready

pub returns-clause-nearer : goal.returns-clause-nearer
returns-clause-nearer g c =
    behind_nearer g.R.Records.meaning g.R.Statements.runs g.met.R.Records.lasts g.met.R.Statements.stay
    g.met.R.Statements.courses g.R.Tends.collected c.args.r.now c.step-stepped.new.r c.collect_behind.new.r c.args.t
    c.args.work.now c.step-stepped.new.work c.step-stepped.result c.collect_behind.result c.collect_behind.ensures
    c.step-stepped.ensures.nearer

pub returns-clause-frames : goal.returns-clause-frames
returns-clause-frames g c =
    behind_frames g.R.Records.meaning g.R.Statements.runs g.met.R.Records.lasts g.met.R.Statements.stay
    g.met.R.Statements.courses g.R.Tends.collected c.args.r.now c.step-stepped.new.r c.collect_behind.new.r c.args.t
    c.args.work.now c.step-stepped.new.work c.step-stepped.result c.collect_behind.result c.collect_behind.ensures
    c.step-stepped.ensures.frames

pub returns-clause-sessions : goal.returns-clause-sessions
returns-clause-sessions g c =
    behind_sessions g.R.Records.meaning g.R.Statements.runs g.met.R.Records.lasts g.met.R.Statements.stay
    g.met.R.Statements.courses g.R.Tends.collected c.args.r.now c.step-stepped.new.r c.collect_behind.new.r c.args.t
    c.args.work.now c.step-stepped.new.work c.step-stepped.result c.collect_behind.result c.collect_behind.ensures
    c.step-stepped.ensures.sessions
