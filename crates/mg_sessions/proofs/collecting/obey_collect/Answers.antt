use Rattle.std.proofs.Common.{None, Some, refl}
use Rattle.mg_script.specs.declared.line.LineKind.TheVariants as kinds
use Rattle.mg_transcript.specs.Lines.{tends, tends_not}
use Rattle.mg_courses.specs.AsideLaws.{aside_carries}
use Rattle.mg_courses.specs.BesideLaws.{works_stay_at, works_stay_ready}
use Rattle.mg_pending.specs.BeginLaws.{alone_at_all, stays_ready, stays_stand}
use Rattle.mg_sessions.specs.AccountLaws.{account_of}
use Rattle.mg_sessions.proofs.collecting.obey_collect.Goals as goal

pub returns-in-Ok-clause-does : goal.returns-in-Ok-clause-does
returns-in-Ok-clause-does g c = λ o h us size stand. record {
  after = h;
  then_ = us;
  does = tends kinds.Collect refl;
  stand = stays_stand g.R.Records.meaning g.R.Statements.runs c.args.r.now c.collect_all.new.self
      c.args.sessions.now.transactions None c.in-Ok.ensures.aside.frames o h h c.args.sessions.now.pending.items us
      (works_stay_at g.R.Records.meaning g.R.Statements.runs g.met.R.Statements.courses) (alone_at_all h)
      (c.in-Ok.ensures.aside.stays o h stand.stands) stand.legal stand;
  carries = aside_carries g.R.Records.meaning g.met.R.Records.lasts c.args.r.now c.collect_all.new.self None
      c.in-Ok.ensures.aside o h stand.stands;
}

pub returns-in-Err-clause-does : goal.returns-in-Err-clause-does
returns-in-Err-clause-does g c = λ o h us size stand. record {
  after = h;
  then_ = us;
  does = tends_not kinds.Collect c.in-Err.refusal refl (c.in-Err.ensures.outside o h stand.stands);
  stand = stays_stand g.R.Records.meaning g.R.Statements.runs c.args.r.now c.collect_all.new.self
      c.args.sessions.now.transactions (Some c.in-Err.refusal) c.in-Err.ensures.aside.frames o h h
      c.args.sessions.now.pending.items us
      (works_stay_at g.R.Records.meaning g.R.Statements.runs g.met.R.Statements.courses) (alone_at_all h)
      (c.in-Err.ensures.aside.stays o h stand.stands) stand.legal stand;
  carries = aside_carries g.R.Records.meaning g.met.R.Records.lasts c.args.r.now c.collect_all.new.self
      (Some c.in-Err.refusal) c.in-Err.ensures.aside o h stand.stands;
}

pub returns-in-Ok-clause-ready : goal.returns-in-Ok-clause-ready
returns-in-Ok-clause-ready g c =
    stays_ready g.R.Records.meaning g.R.Statements.runs c.args.r.now c.collect_all.new.self
    c.args.sessions.now.transactions None c.in-Ok.ensures.aside.frames c.args.sessions.now.pending.items
    (works_stay_ready g.R.Records.meaning g.R.Statements.runs g.met.R.Statements.stay)
    c.in-Ok.ensures.aside.quiet.sessions c.requires.ready

pub returns-in-Err-clause-ready : goal.returns-in-Err-clause-ready
returns-in-Err-clause-ready g c =
    stays_ready g.R.Records.meaning g.R.Statements.runs c.args.r.now c.collect_all.new.self
    c.args.sessions.now.transactions (Some c.in-Err.refusal) c.in-Err.ensures.aside.frames
    c.args.sessions.now.pending.items
    (works_stay_ready g.R.Records.meaning g.R.Statements.runs g.met.R.Statements.stay)
    c.in-Err.ensures.aside.quiet.sessions c.requires.ready

pub returns-in-Ok-clause-accounts : goal.returns-in-Ok-clause-accounts
returns-in-Ok-clause-accounts g c =
    account_of g.R.Records.meaning c.args.r.now c.collect_all.new.self 0 None (c.in-Ok.ensures.aside.frames 0)

pub returns-in-Err-clause-accounts : goal.returns-in-Err-clause-accounts
returns-in-Err-clause-accounts g c =
    account_of g.R.Records.meaning c.args.r.now c.collect_all.new.self 0 (Some c.in-Err.refusal)
    (c.in-Err.ensures.aside.frames 0)
