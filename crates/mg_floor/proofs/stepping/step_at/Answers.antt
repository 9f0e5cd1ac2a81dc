use Rattle.std.proofs.Common.{ap, ◌∙◌, ◌++◌}
use Rattle.std.specs.List.{remove}
use Rattle.mg_script.specs.declared.reply.Reply.{Reply}
use Rattle.mg_transcript.specs.Steps.{Steps}
use Rattle.mg_courses.specs.BesideLaws.{works_stay_at, works_stay_ready}
use Rattle.mg_pending.specs.Statements.{pending_after, reply_of_step, transactions_after}
use Rattle.mg_sessions.specs.Coming.{IsKept}
use Rattle.mg_sessions.specs.HoldingLaws.{taken_can}
use Rattle.mg_sessions.specs.StatementLaws.{comes_as, ready_as}
use Rattle.mg_floor.proofs.SteppingLemmas.{kept_step, stepped_ready}
use Rattle.mg_floor.proofs.stepping.step_at.Goals as goal

pub step_on-stepped-requires : goal.step_on-stepped-requires
step_on-stepped-requires g c = record {
  ready = (taken_can g.R.Records.meaning g.R.Statements.runs c.args.r.now c.args.sessions.now.transactions
      c.args.sessions.now.pending.items c.args.place c.take_out-going.result c.requires.inside
      c.take_out-going.ensures.taken c.requires.ready).ready;
}

pub keep-requires-clause-lettered : goal.keep-requires-clause-lettered
keep-requires-clause-lettered g c =
    (taken_can g.R.Records.meaning g.R.Statements.runs c.args.r.now c.args.sessions.now.transactions
    c.args.sessions.now.pending.items c.args.place c.take_out-going.result c.requires.inside
    c.take_out-going.ensures.taken c.requires.ready).lettered

pub returns-clause-ready : goal.returns-clause-ready
returns-clause-ready g c =
    let m = g.R.Records.meaning in
    let runs = g.R.Statements.runs in
    let all = c.args.sessions.now.transactions in
    let ps = c.args.sessions.now.pending.items in
    let p = c.take_out-going.result in
    let stepped = c.step_on-stepped.result in
    ready_as m runs c.step_on-stepped.new.r (transactions_after p.session.0 stepped all) c.keep.new.self.transactions
    (pending_after p.session p.transaction c.step_on-stepped.new.work stepped (remove ps c.args.place))
    c.keep.new.self.pending.items
    (c.keep.ensures.transactions ∙ ap (transactions_after p.session.0 stepped) c.take_out-going.ensures.transactions)
    (c.keep.ensures.pending
    ∙ ap (pending_after p.session p.transaction c.step_on-stepped.new.work stepped) c.take_out-going.ensures.pending)
    (stepped_ready m runs g.met.R.Records.one g.met.R.Records.lasts (works_stay_at m runs g.met.R.Statements.courses)
    (works_stay_ready m runs g.met.R.Statements.stay) c.args.r.now c.step_on-stepped.new.r all ps c.args.place p
    c.requires.inside c.take_out-going.ensures.taken c.requires.ready stepped c.step_on-stepped.new.work
    c.step_on-stepped.ensures.frames c.step_on-stepped.ensures.sessions c.step_on-stepped.ensures.ready)

pub returns-clause-does : goal.returns-clause-does
returns-clause-does g c = λ o h us d stand s.
    let m = g.R.Records.meaning in
    let runs = g.R.Statements.runs in
    let all = c.args.sessions.now.transactions in
    let ps = c.args.sessions.now.pending.items in
    let p = c.take_out-going.result in
    let stepped = c.step_on-stepped.result in
    comes_as m runs c.args.r.now c.step_on-stepped.new.r o h (transactions_after p.session.0 stepped all)
    c.keep.new.self.transactions
    (pending_after p.session p.transaction c.step_on-stepped.new.work stepped (remove ps c.args.place))
    c.keep.new.self.pending.items
    (λ (reply : Reply). IsKept s.one.session s.one.transaction (s.before ++ s.behind)
    (Steps o h s.one.transaction s.one.course) reply) (reply_of_step stepped) c.keep.result
    (c.keep.ensures.transactions ∙ ap (transactions_after p.session.0 stepped) c.take_out-going.ensures.transactions)
    (c.keep.ensures.pending
    ∙ ap (pending_after p.session p.transaction c.step_on-stepped.new.work stepped) c.take_out-going.ensures.pending)
    c.keep.ensures.reply
    (kept_step m runs g.met.R.Records.one g.met.R.Records.lasts (works_stay_at m runs g.met.R.Statements.courses)
    (works_stay_ready m runs g.met.R.Statements.stay) c.args.r.now c.step_on-stepped.new.r all ps c.args.place p
    c.requires.inside c.take_out-going.ensures.taken c.requires.ready stepped c.step_on-stepped.new.work
    c.step_on-stepped.ensures.frames o h us d stand s c.step_on-stepped.ensures.steps)
