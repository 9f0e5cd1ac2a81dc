use Rattle.std.proofs.Common.{◌≡◌, false, ℕ, ◌++◌, Some, ap, ◌∙◌, refl, subst}
use Rattle.std.specs.List.{remove}
use Rattle.mg_base.specs.declared.numbers.TxNo.{TxNo}
use Rattle.mg_rows.specs.declared.statement_fault.StatementFault.TheVariants.{NothingHeld}
use Rattle.mg_script.specs.declared.line.LineKind.TheVariants as kinds
use Rattle.mg_script.specs.declared.reply.Reply.{Reply}
use Rattle.mg_script.specs.declared.reply.Reply.TheVariants.{No}
use Rattle.mg_transcript.specs.Courses.{Later}
use Rattle.mg_transcript.specs.LegalLaws.{takes_legal}
use Rattle.mg_transcript.specs.Lines.{Does, steps_none, steps_on}
use Rattle.mg_transcript.specs.OwnEventLaws.{takes_own}
use Rattle.mg_transcript.specs.Steps.{Takes}
use Rattle.mg_courses.specs.BesideLaws.{works_stay_at, works_stay_ready}
use Rattle.mg_pending.specs.AgreeLaws.{holds_it, holds_none, split_at}
use Rattle.mg_pending.specs.StandingLaws.{live_is_active}
use Rattle.mg_pending.specs.Statements.{has_statement, transactions_after, pending_after, reply_of_step}
use Rattle.mg_pending.specs.Transactions.{number_at}
use Rattle.mg_sessions.specs.GoLaws.{step_ready}
use Rattle.mg_sessions.specs.HoldingLaws.{held_session, kept_for, left_idle, left_ready, left_stand, some_one, taken_at, taken_can, taken_transaction}
use Rattle.mg_sessions.specs.StatementLaws.{comes_as, kept_does, ready_as, stays_so, went}
use Rattle.mg_sessions.proofs.holding.obey_step.Goals as goal

pub take-stepped-requires-clause-ready : goal.take-stepped-requires-clause-ready
take-stepped-requires-clause-ready g c =
    (taken_can g.R.Records.meaning g.R.Statements.runs c.args.r.now c.args.sessions.now.transactions
    c.args.sessions.now.pending.items c.in-Some.place c.take_out-held.result c.in-Some.ensures.some.inside
    c.take_out-held.ensures.taken c.requires.ready).ready

pub returns-in-None-clause-does : goal.returns-in-None-clause-does
returns-in-None-clause-does g c = λ o h us size stand.
    let all = c.args.sessions.now.transactions in
    let ps = c.args.sessions.now.pending.items in
    stays_so g.R.Records.meaning g.R.Statements.runs g.met.R.Records.crashes c.args.r.now o h all ps us
    (Does o h size us (kinds.Step c.args.session c.args.most) (No NothingHeld)) stand
    (steps_none c.args.session c.args.most
    (holds_none g.R.Statements.runs c.args.r.now o h ps us c.args.session stand.agree c.in-None.ensures.none))

pub returns-clause-ready : goal.returns-clause-ready
returns-clause-ready g c =
    let m = g.R.Records.meaning in
    let runs = g.R.Statements.runs in
    let r = c.args.r.now in
    let all = c.args.sessions.now.transactions in
    let ps = c.args.sessions.now.pending.items in
    let place = c.in-Some.place in
    let p = c.take_out-held.result in
    let first = c.in-Some.ensures.some in
    let taken = c.take_out-held.ensures.taken in
    let same = held_session ps place p c.args.session taken first in
    let can = taken_can m runs r all ps place p first.inside taken c.requires.ready in
    let its = subst (λ (n : ℕ). number_at all n ≡ Some p.transaction) same can.its in
    let idle = subst (λ (n : ℕ). has_statement n (remove ps place) ≡ false) same
    (left_idle m runs r all ps place p first.inside taken c.requires.ready) in
    let stepped = c.take-stepped.result in
    ready_as m runs c.take-stepped.new.r (transactions_after c.args.session.0 stepped all)
    c.keep.new.self.transactions
    (pending_after c.args.session p.transaction c.take-stepped.new.work stepped (remove ps place))
    c.keep.new.self.pending.items
    (c.keep.ensures.transactions ∙ ap (transactions_after c.args.session.0 stepped) c.take_out-held.ensures.transactions)
    (c.keep.ensures.pending
    ∙ ap (pending_after c.args.session p.transaction c.take-stepped.new.work stepped) c.take_out-held.ensures.pending)
    (step_ready m runs g.met.R.Records.one r c.take-stepped.new.r c.args.session p.transaction stepped all
    (remove ps place) (left_ready m runs r all ps place p first.inside taken c.requires.ready) its idle
    c.take-stepped.ensures.frames (works_stay_ready m runs g.met.R.Statements.stay)
    c.take-stepped.ensures.sessions c.take-stepped.new.work c.requires.lettered c.take-stepped.ensures.ready)

pub returns-clause-does : goal.returns-clause-does
returns-clause-does g c = λ o h us size stand.
    let m = g.R.Records.meaning in
    let runs = g.R.Statements.runs in
    let r = c.args.r.now in
    let all = c.args.sessions.now.transactions in
    let ps = c.args.sessions.now.pending.items in
    let place = c.in-Some.place in
    let p = c.take_out-held.result in
    let first = c.in-Some.ensures.some in
    let taken = c.take_out-held.ensures.taken in
    let same = held_session ps place p c.args.session taken first in
    let can = taken_can m runs r all ps place p first.inside taken c.requires.ready in
    let its = subst (λ (n : ℕ). number_at all n ≡ Some p.transaction) same can.its in
    let idle = subst (λ (n : ℕ). has_statement n (remove ps place) ≡ false) same
    (left_idle m runs r all ps place p first.inside taken c.requires.ready) in
    let left_all_ready = left_ready m runs r all ps place p first.inside taken c.requires.ready in
    let stepped = c.take-stepped.result in
    let d = some_one ps place first.inside in
    let s = split_at runs r o h ps place d us first.inside stand.agree in
    let others = s.before ++ s.behind in
    let holds = holds_it runs r o h ps us place d c.args.session first s in
    let left = left_stand m runs r all ps place p first.inside taken c.requires.ready o h us d stand s in
    let at_work = taken_at m runs r all ps place p first.inside taken c.requires.ready o h us d stand s in
    let number = taken_transaction m runs r all ps place p first.inside taken c.requires.ready o h us d stand s in
    let active = live_is_active m runs r o h all (remove ps place) others c.args.session.0 p.transaction left its in
    let taken_so = c.take-stepped.ensures.takes o h s.one.course stand.stands active at_work in
    comes_as m runs r c.take-stepped.new.r o h (transactions_after c.args.session.0 stepped all)
    c.keep.new.self.transactions
    (pending_after c.args.session p.transaction c.take-stepped.new.work stepped (remove ps place))
    c.keep.new.self.pending.items
    (λ (reply : Reply). Does o h size us (kinds.Step c.args.session c.args.most) reply) (reply_of_step stepped)
    c.keep.result
    (c.keep.ensures.transactions ∙ ap (transactions_after c.args.session.0 stepped) c.take_out-held.ensures.transactions)
    (c.keep.ensures.pending
    ∙ ap (pending_after c.args.session p.transaction c.take-stepped.new.work stepped) c.take_out-held.ensures.pending)
    c.keep.ensures.reply
    (kept_does m runs r c.take-stepped.new.r o h (transactions_after c.args.session.0 stepped all)
    (pending_after c.args.session p.transaction c.take-stepped.new.work stepped (remove ps place)) others
    c.args.session s.one.transaction (Takes o s.one.transaction c.args.most h (Later s.one.course))
    (reply_of_step stepped)
    (λ (reply : Reply). Does o h size us (kinds.Step c.args.session c.args.most) reply)
    (λ after comes takes. steps_on c.args.session c.args.most s.one others after comes holds takes)
    (kept_for m runs r c.take-stepped.new.r o h (transactions_after c.args.session.0 stepped all)
    (pending_after c.args.session p.transaction c.take-stepped.new.work stepped (remove ps place)) others
    c.args.session c.args.session p.transaction s.one.transaction
    (λ (t : TxNo). Takes o t c.args.most h (Later s.one.course)) (reply_of_step stepped) refl number
    (went m runs g.met.R.Records.one g.met.R.Records.lasts
    (works_stay_at m runs g.met.R.Statements.courses) r c.take-stepped.new.r c.args.session p.transaction stepped
    all (remove ps place) left_all_ready its idle c.take-stepped.ensures.frames o h others c.take-stepped.new.work
    (Takes o p.transaction c.args.most h (Later s.one.course)) left taken_so
    (λ after comes takes. takes_own takes) (λ after comes takes. takes_legal takes stand.legal))))
