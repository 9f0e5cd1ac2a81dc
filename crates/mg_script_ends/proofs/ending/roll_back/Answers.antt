use Rattle.std.proofs.Common.{None, Some, refl}
use Rattle.mg_calls.specs.FrameLaws.{frames_changes}
use Rattle.mg_courses.specs.BesideLaws.{works_stay_at, works_stay_ready}
use Rattle.mg_sessions.specs.AccountLaws.{account_of}
use Rattle.mg_script_ends.proofs.EndLemmas.{back_ends, back_ready, not_ends, not_ready}
use Rattle.mg_script_ends.proofs.ending.roll_back.Goals as goal

pub returns-in-Ok-clause-ends : goal.returns-in-Ok-clause-ends
returns-in-Ok-clause-ends g c = back_ends g.R.Records.meaning g.R.Statements.runs g.met.R.Records.one
    g.met.R.Records.lasts c.args.r.now c.rollback.new.self c.args.session.0 c.args.t c.args.transactions.now
    c.end.new.self c.requires.ready c.requires.its c.end.ensures c.in-Ok.ensures.leaves c.in-Ok.ensures.told
    (works_stay_at g.R.Records.meaning g.R.Statements.runs g.met.R.Statements.courses) c.in-Ok.ensures.adds
    c.in-Ok.ensures.undamaged c.in-Ok.ensures.crash

pub returns-in-Ok-clause-ready : goal.returns-in-Ok-clause-ready
returns-in-Ok-clause-ready g c = back_ready g.R.Records.meaning g.R.Statements.runs g.met.R.Records.one
    g.met.R.Records.lasts c.args.r.now c.rollback.new.self c.args.session.0 c.args.t c.args.transactions.now
    c.end.new.self c.requires.ready c.requires.its c.end.ensures c.in-Ok.ensures.leaves c.in-Ok.ensures.told
    (works_stay_ready g.R.Records.meaning g.R.Statements.runs g.met.R.Statements.stay) c.in-Ok.ensures.sessions

pub returns-in-Ok-clause-accounts : goal.returns-in-Ok-clause-accounts
returns-in-Ok-clause-accounts g c = account_of g.R.Records.meaning c.args.r.now c.rollback.new.self c.args.t.0 None
    (frames_changes g.R.Records.meaning c.args.r.now c.rollback.new.self c.args.t.0 None c.in-Ok.ensures.leaves c.in-Ok.ensures.told)

pub returns-in-Err-clause-ends : goal.returns-in-Err-clause-ends
returns-in-Err-clause-ends g c = not_ends g.R.Records.meaning g.R.Statements.runs g.met.R.Records.one
    g.met.R.Records.lasts c.args.r.now c.rollback.new.self c.args.session.0 c.args.t c.args.transactions.now
    c.args.transactions.now c.requires.ready c.requires.its c.in-Err.refusal refl c.in-Err.ensures.leaves c.in-Err.ensures.told
    (works_stay_at g.R.Records.meaning g.R.Statements.runs g.met.R.Statements.courses) c.in-Err.ensures.adds
    c.in-Err.ensures.undamaged c.in-Err.ensures.crash

pub returns-in-Err-clause-ready : goal.returns-in-Err-clause-ready
returns-in-Err-clause-ready g c = not_ready g.R.Records.meaning g.R.Statements.runs g.met.R.Records.one
    g.met.R.Records.lasts c.args.r.now c.rollback.new.self c.args.session.0 c.args.t c.args.transactions.now
    c.args.transactions.now c.requires.ready c.requires.its c.in-Err.refusal refl c.in-Err.ensures.leaves c.in-Err.ensures.told
    (works_stay_ready g.R.Records.meaning g.R.Statements.runs g.met.R.Statements.stay) c.in-Err.ensures.sessions

pub returns-in-Err-clause-accounts : goal.returns-in-Err-clause-accounts
returns-in-Err-clause-accounts g c = account_of g.R.Records.meaning c.args.r.now c.rollback.new.self c.args.t.0
    (Some c.in-Err.refusal) (frames_changes g.R.Records.meaning c.args.r.now c.rollback.new.self c.args.t.0
    (Some c.in-Err.refusal) c.in-Err.ensures.leaves c.in-Err.ensures.told)
