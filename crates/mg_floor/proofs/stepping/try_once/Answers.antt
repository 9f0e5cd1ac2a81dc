use Rattle.std.proofs.Common.{List, Option, ap, sym, ◌∙◌, ◌++◌}
use Rattle.std.specs.List.{remove}
use Rattle.mg_script.specs.declared.reply.Reply.{Reply}
use Rattle.mg_interleavings.specs.declared.answered.Answered.TheVariants.{Replied}
use Rattle.mg_courses.specs.BesideLaws.{works_stay_at, works_stay_ready}
use Rattle.mg_pending.specs.declared.transactions.Transaction.{Transaction}
use Rattle.mg_pending.specs.Statements.{has_statement, pending_after, reply_of_step, transactions_after}
use Rattle.mg_pending.specs.Transactions.{number_at}
use Rattle.mg_sessions.specs.HoldingLaws.{left_idle, stand_as, taken_can}
use Rattle.mg_sessions.specs.StatementLaws.{comes_as, ready_as}
use Rattle.mg_floor.specs.Trying.{TriesOnce}
use Rattle.mg_floor.proofs.SteppingLemmas.{given_up_account, stepped_ready, tried_given_up, tried_kept, waits_ready}
use Rattle.mg_floor.proofs.stepping.try_once.Goals as goal

pub step_on-stepped-requires : goal.step_on-stepped-requires
step_on-stepped-requires g c = record {
  ready = (taken_can g.R.Records.meaning g.R.Statements.runs c.args.r.now c.args.sessions.now.transactions
      c.args.sessions.now.pending.items c.args.place c.take_out-trying.result c.requires.inside
      c.take_out-trying.ensures.taken c.requires.ready).ready;
}

pub keep-requires-clause-lettered : goal.keep-requires-clause-lettered
keep-requires-clause-lettered g c =
    (taken_can g.R.Records.meaning g.R.Statements.runs c.args.r.now c.args.sessions.now.transactions
    c.args.sessions.now.pending.items c.args.place c.take_out-trying.result c.requires.inside
    c.take_out-trying.ensures.taken c.requires.ready).lettered

-- ---- it waits again

pub give_up_one-requires-clause-ready : goal.give_up_one-requires-clause-ready
give_up_one-requires-clause-ready g c =
    let m = g.R.Records.meaning in
    let runs = g.R.Statements.runs in
    let all = c.args.sessions.now.transactions in
    let ps = c.args.sessions.now.pending.items in
    ready_as m runs c.step_on-stepped.new.r all c.take_out-trying.new.self.transactions (remove ps c.args.place)
    c.take_out-trying.new.self.pending.items c.take_out-trying.ensures.transactions c.take_out-trying.ensures.pending
    (waits_ready m runs g.met.R.Records.one g.met.R.Records.lasts (works_stay_at m runs g.met.R.Statements.courses)
    (works_stay_ready m runs g.met.R.Statements.stay) c.args.r.now c.step_on-stepped.new.r all ps c.args.place
    c.take_out-trying.result c.requires.inside c.take_out-trying.ensures.taken c.requires.ready c.step_on-stepped.result
    c.step_on-stepped.new.work c.step_on-stepped.ensures.frames c.args.on (sym c.waits_for.ensures ∙ c.if-waits_for.true)
    c.step_on-stepped.ensures.sessions)

pub give_up_one-requires-clause-its : goal.give_up_one-requires-clause-its
give_up_one-requires-clause-its g c =
    ap (λ (a : List (Option Transaction)). number_at a c.take_out-trying.result.session.0)
    c.take_out-trying.ensures.transactions
    ∙ (taken_can g.R.Records.meaning g.R.Statements.runs c.args.r.now c.args.sessions.now.transactions
    c.args.sessions.now.pending.items c.args.place c.take_out-trying.result c.requires.inside
    c.take_out-trying.ensures.taken c.requires.ready).its

pub give_up_one-requires-clause-idle : goal.give_up_one-requires-clause-idle
give_up_one-requires-clause-idle g c =
    ap (has_statement c.take_out-trying.result.session.0) c.take_out-trying.ensures.pending
    ∙ left_idle g.R.Records.meaning g.R.Statements.runs c.args.r.now c.args.sessions.now.transactions
    c.args.sessions.now.pending.items c.args.place c.take_out-trying.result c.requires.inside
    c.take_out-trying.ensures.taken c.requires.ready

pub give_up_one-requires-clause-lettered : goal.give_up_one-requires-clause-lettered
give_up_one-requires-clause-lettered g c =
    (taken_can g.R.Records.meaning g.R.Statements.runs c.args.r.now c.args.sessions.now.transactions
    c.args.sessions.now.pending.items c.args.place c.take_out-trying.result c.requires.inside
    c.take_out-trying.ensures.taken c.requires.ready).lettered

pub returns-then-waits_for-clause-does : goal.returns-then-waits_for-clause-does
returns-then-waits_for-clause-does g c = λ o h us d stand s.
    let m = g.R.Records.meaning in
    let runs = g.R.Statements.runs in
    let all = c.args.sessions.now.transactions in
    let ps = c.args.sessions.now.pending.items in
    let left = c.take_out-trying.new.self in
    tried_given_up m runs g.met.R.Records.one g.met.R.Records.lasts (works_stay_at m runs g.met.R.Statements.courses)
    (works_stay_ready m runs g.met.R.Statements.stay) c.args.r.now c.step_on-stepped.new.r all ps c.args.place
    c.take_out-trying.result c.requires.inside c.take_out-trying.ensures.taken c.requires.ready c.step_on-stepped.result
    c.step_on-stepped.new.work c.step_on-stepped.ensures.frames o h us d stand s c.step_on-stepped.ensures.steps c.args.on
    (sym c.waits_for.ensures ∙ c.if-waits_for.true) c.give_up_one.new.r c.give_up_one.new.sessions.transactions
    c.give_up_one.new.sessions.pending.items c.give_up_one.result
    (λ o h us there. c.give_up_one.ensures.does o h us
    (stand_as m runs c.step_on-stepped.new.r o h all left.transactions (remove ps c.args.place) left.pending.items us
    c.take_out-trying.ensures.transactions c.take_out-trying.ensures.pending there))

pub returns-then-waits_for-clause-accounts : goal.returns-then-waits_for-clause-accounts
returns-then-waits_for-clause-accounts g c =
    let m = g.R.Records.meaning in
    let runs = g.R.Statements.runs in
    given_up_account m runs g.met.R.Records.one g.met.R.Records.lasts (works_stay_at m runs g.met.R.Statements.courses)
    (works_stay_ready m runs g.met.R.Statements.stay) c.args.r.now c.step_on-stepped.new.r c.args.sessions.now.transactions
    c.args.sessions.now.pending.items c.args.place c.take_out-trying.result c.requires.inside
    c.take_out-trying.ensures.taken c.requires.ready c.step_on-stepped.result c.step_on-stepped.new.work
    c.step_on-stepped.ensures.frames c.args.on (sym c.waits_for.ensures ∙ c.if-waits_for.true) c.give_up_one.new.r
    c.give_up_one.result c.give_up_one.ensures.accounts

-- ---- it does not

pub returns-clause-ready : goal.returns-clause-ready
returns-clause-ready g c =
    let m = g.R.Records.meaning in
    let runs = g.R.Statements.runs in
    let all = c.args.sessions.now.transactions in
    let ps = c.args.sessions.now.pending.items in
    let p = c.take_out-trying.result in
    let stepped = c.step_on-stepped.result in
    ready_as m runs c.step_on-stepped.new.r (transactions_after p.session.0 stepped all) c.keep.new.self.transactions
    (pending_after p.session p.transaction c.step_on-stepped.new.work stepped (remove ps c.args.place))
    c.keep.new.self.pending.items
    (c.keep.ensures.transactions ∙ ap (transactions_after p.session.0 stepped) c.take_out-trying.ensures.transactions)
    (c.keep.ensures.pending
    ∙ ap (pending_after p.session p.transaction c.step_on-stepped.new.work stepped) c.take_out-trying.ensures.pending)
    (stepped_ready m runs g.met.R.Records.one g.met.R.Records.lasts (works_stay_at m runs g.met.R.Statements.courses)
    (works_stay_ready m runs g.met.R.Statements.stay) c.args.r.now c.step_on-stepped.new.r all ps c.args.place p
    c.requires.inside c.take_out-trying.ensures.taken c.requires.ready stepped c.step_on-stepped.new.work
    c.step_on-stepped.ensures.frames c.step_on-stepped.ensures.sessions c.step_on-stepped.ensures.ready)

pub returns-clause-does : goal.returns-clause-does
returns-clause-does g c = λ o h us d stand s.
    let m = g.R.Records.meaning in
    let runs = g.R.Statements.runs in
    let all = c.args.sessions.now.transactions in
    let ps = c.args.sessions.now.pending.items in
    let p = c.take_out-trying.result in
    let stepped = c.step_on-stepped.result in
    comes_as m runs c.args.r.now c.step_on-stepped.new.r o h (transactions_after p.session.0 stepped all)
    c.keep.new.self.transactions
    (pending_after p.session p.transaction c.step_on-stepped.new.work stepped (remove ps c.args.place))
    c.keep.new.self.pending.items
    (λ (reply : Reply). TriesOnce o h s.one (s.before ++ s.behind) c.args.on (Replied reply)) (reply_of_step stepped)
    c.keep.result
    (c.keep.ensures.transactions ∙ ap (transactions_after p.session.0 stepped) c.take_out-trying.ensures.transactions)
    (c.keep.ensures.pending
    ∙ ap (pending_after p.session p.transaction c.step_on-stepped.new.work stepped) c.take_out-trying.ensures.pending)
    c.keep.ensures.reply
    (tried_kept m runs g.met.R.Records.one g.met.R.Records.lasts (works_stay_at m runs g.met.R.Statements.courses)
    (works_stay_ready m runs g.met.R.Statements.stay) c.args.r.now c.step_on-stepped.new.r all ps c.args.place p
    c.requires.inside c.take_out-trying.ensures.taken c.requires.ready stepped c.step_on-stepped.new.work
    c.step_on-stepped.ensures.frames o h us d stand s c.step_on-stepped.ensures.steps c.args.on
    (sym c.waits_for.ensures ∙ c.if-waits_for.false))
