use Rattle.std.proofs.Common.{◌++◌, refl}
use Rattle.mg_base.specs.declared.numbers.TxNo.{TxNo}
use Rattle.mg_rows.specs.declared.statement_fault.StatementFault.TheVariants.{NothingHeld}
use Rattle.mg_script.specs.declared.line.LineKind.TheVariants as kinds
use Rattle.mg_script.specs.declared.reply.Reply.{Reply}
use Rattle.mg_script.specs.declared.reply.Reply.TheVariants.{No}
use Rattle.mg_transcript.specs.Courses.{Later}
use Rattle.mg_transcript.specs.Lines.{Does, goes_none, goes_on}
use Rattle.mg_transcript.specs.Steps.{Runs}
use Rattle.mg_pending.specs.AgreeLaws.{holds_it, holds_none, split_at}
use Rattle.mg_sessions.specs.HoldingLaws.{kept_for, some_one}
use Rattle.mg_sessions.specs.StatementLaws.{kept_does, stays_so}
use Rattle.mg_sessions.proofs.holding.obey_go.Goals as goal

pub returns-in-None-clause-does : goal.returns-in-None-clause-does
returns-in-None-clause-does g c = λ o h us size stand.
    let all = c.args.sessions.now.transactions in
    let ps = c.args.sessions.now.pending.items in
    stays_so g.R.Records.meaning g.R.Statements.runs g.met.R.Records.crashes c.args.r.now o h all ps us
    (Does o h size us (kinds.Go c.args.session) (No NothingHeld)) stand
    (goes_none c.args.session
    (holds_none g.R.Statements.runs c.args.r.now o h ps us c.args.session stand.agree c.in-None.ensures.none))

pub returns-clause-does : goal.returns-clause-does
returns-clause-does g c = λ o h us size stand.
    let m = g.R.Records.meaning in
    let runs = g.R.Statements.runs in
    let r = c.args.r.now in
    let ps = c.args.sessions.now.pending.items in
    let first = c.in-Some.ensures.some in
    let d = some_one ps c.in-Some.place first.inside in
    let s = split_at runs r o h ps c.in-Some.place d us first.inside stand.agree in
    let holds = holds_it runs r o h ps us c.in-Some.place d c.args.session first s in
    kept_does m runs r c.resume.new.r o h c.resume.new.sessions.transactions c.resume.new.sessions.pending.items
    (s.before ++ s.behind) c.args.session s.one.transaction (Runs o s.one.transaction h (Later s.one.course))
    c.resume.result.reply (λ (reply : Reply). Does o h size us (kinds.Go c.args.session) reply)
    (λ after comes runs_so. goes_on c.args.session s.one (s.before ++ s.behind) after comes holds runs_so)
    (kept_for m runs r c.resume.new.r o h c.resume.new.sessions.transactions
    c.resume.new.sessions.pending.items (s.before ++ s.behind) s.one.session c.args.session s.one.transaction
    s.one.transaction (λ (t : TxNo). Runs o t h (Later s.one.course)) c.resume.result.reply holds.its refl
    (c.resume.ensures.does o h us d stand s))
