use Rattle.std.proofs.Common.{None, Some, refl}
use Rattle.mg_script.specs.declared.line.LineKind.TheVariants as kinds
use Rattle.mg_transcript.specs.Lines.{tends, tends_not}
use Rattle.mg_courses.specs.BesideLaws.{works_stay_at, works_stay_ready}
use Rattle.mg_pending.specs.BeginLaws.{alone_at_all, stays_ready, stays_stand}
use Rattle.mg_sessions.specs.AccountLaws.{account_of}
use Rattle.mg_sessions.proofs.tending.obey_write.Goals as goal

pub returns-in-Ok-clause-does : goal.returns-in-Ok-clause-does
returns-in-Ok-clause-does g c = λ o h us size stand.
    let gone = c.in-Ok.ensures.stands o h stand.stands in
    record {
      after = h;
      then_ = us;
      does = tends (kinds.Write c.args.most) refl;
      stand = stays_stand g.R.Records.meaning g.R.Statements.runs c.args.r.now c.write_pages.new.r
          c.args.sessions.now.transactions None c.in-Ok.ensures.frames o h h c.args.sessions.now.pending.items us
          (works_stay_at g.R.Records.meaning g.R.Statements.runs g.met.R.Statements.courses) (alone_at_all h)
          gone.0 stand.legal stand;
      carries = gone.1;
    }

pub returns-in-Err-clause-does : goal.returns-in-Err-clause-does
returns-in-Err-clause-does g c = λ o h us size stand.
    let gone = c.in-Err.ensures.stands o h stand.stands in
    record {
      after = h;
      then_ = us;
      does = tends_not (kinds.Write c.args.most) c.in-Err.refusal refl c.in-Err.ensures.outside;
      stand = stays_stand g.R.Records.meaning g.R.Statements.runs c.args.r.now c.write_pages.new.r
          c.args.sessions.now.transactions (Some c.in-Err.refusal) c.in-Err.ensures.frames o h h
          c.args.sessions.now.pending.items us
          (works_stay_at g.R.Records.meaning g.R.Statements.runs g.met.R.Statements.courses) (alone_at_all h)
          gone.0 stand.legal stand;
      carries = gone.1;
    }

pub returns-in-Ok-clause-ready : goal.returns-in-Ok-clause-ready
returns-in-Ok-clause-ready g c =
    stays_ready g.R.Records.meaning g.R.Statements.runs c.args.r.now c.write_pages.new.r
    c.args.sessions.now.transactions None c.in-Ok.ensures.frames c.args.sessions.now.pending.items
    (works_stay_ready g.R.Records.meaning g.R.Statements.runs g.met.R.Statements.stay) c.in-Ok.ensures.sessions
    c.requires.ready

pub returns-in-Err-clause-ready : goal.returns-in-Err-clause-ready
returns-in-Err-clause-ready g c =
    stays_ready g.R.Records.meaning g.R.Statements.runs c.args.r.now c.write_pages.new.r
    c.args.sessions.now.transactions (Some c.in-Err.refusal) c.in-Err.ensures.frames
    c.args.sessions.now.pending.items
    (works_stay_ready g.R.Records.meaning g.R.Statements.runs g.met.R.Statements.stay) c.in-Err.ensures.sessions
    c.requires.ready

pub returns-in-Ok-clause-accounts : goal.returns-in-Ok-clause-accounts
returns-in-Ok-clause-accounts g c =
    account_of g.R.Records.meaning c.args.r.now c.write_pages.new.r 0 None (c.in-Ok.ensures.frames 0)

pub returns-in-Err-clause-accounts : goal.returns-in-Err-clause-accounts
returns-in-Err-clause-accounts g c =
    account_of g.R.Records.meaning c.args.r.now c.write_pages.new.r 0 (Some c.in-Err.refusal)
    (c.in-Err.ensures.frames 0)
