use Rattle.std.proofs.Common.{List, ◌++◌, Option, ap, ◌∙◌}
use Rattle.std.specs.List.{remove}
use Rattle.mg_base.specs.declared.numbers.TxNo.{TxNo}
use Rattle.mg_transcript.specs.Courses.{Later}
use Rattle.mg_transcript.specs.Steps.{Runs}
use Rattle.mg_pending.specs.declared.transactions.Transaction.{Transaction}
use Rattle.mg_pending.specs.Statements.{has_statement}
use Rattle.mg_pending.specs.Transactions.{number_at}
use Rattle.mg_sessions.specs.HoldingLaws.{kept_for, left_idle, left_ready, left_stand, stand_as, taken_at, taken_can, taken_session, taken_transaction}
use Rattle.mg_sessions.specs.StatementLaws.{ready_as}
use Rattle.mg_sessions.proofs.holding.resume.Goals as goal

pub go_on-requires-clause-ready : goal.go_on-requires-clause-ready
go_on-requires-clause-ready g c =
    let m = g.R.Records.meaning in
    let runs = g.R.Statements.runs in
    let all = c.args.sessions.now.transactions in
    let ps = c.args.sessions.now.pending.items in
    ready_as m runs c.args.r.now all c.take_out-waiting.new.self.transactions (remove ps c.args.place)
    c.take_out-waiting.new.self.pending.items c.take_out-waiting.ensures.transactions c.take_out-waiting.ensures.pending
    (left_ready m runs c.args.r.now all ps c.args.place c.take_out-waiting.result c.requires.inside
    c.take_out-waiting.ensures.taken c.requires.ready)

pub go_on-requires-clause-idle : goal.go_on-requires-clause-idle
go_on-requires-clause-idle g c =
    ap (has_statement c.take_out-waiting.result.session.0) c.take_out-waiting.ensures.pending
    ∙ left_idle g.R.Records.meaning g.R.Statements.runs c.args.r.now c.args.sessions.now.transactions
    c.args.sessions.now.pending.items c.args.place c.take_out-waiting.result c.requires.inside
    c.take_out-waiting.ensures.taken c.requires.ready

pub go_on-requires-clause-its : goal.go_on-requires-clause-its
go_on-requires-clause-its g c =
    ap (λ (a : List (Option Transaction)). number_at a c.take_out-waiting.result.session.0)
    c.take_out-waiting.ensures.transactions
    ∙ (taken_can g.R.Records.meaning g.R.Statements.runs c.args.r.now c.args.sessions.now.transactions
    c.args.sessions.now.pending.items c.args.place c.take_out-waiting.result c.requires.inside
    c.take_out-waiting.ensures.taken c.requires.ready).its

pub go_on-requires-clause-can : goal.go_on-requires-clause-can
go_on-requires-clause-can g c =
    (taken_can g.R.Records.meaning g.R.Statements.runs c.args.r.now c.args.sessions.now.transactions
    c.args.sessions.now.pending.items c.args.place c.take_out-waiting.result c.requires.inside
    c.take_out-waiting.ensures.taken c.requires.ready).ready

pub go_on-requires-clause-lettered : goal.go_on-requires-clause-lettered
go_on-requires-clause-lettered g c =
    (taken_can g.R.Records.meaning g.R.Statements.runs c.args.r.now c.args.sessions.now.transactions
    c.args.sessions.now.pending.items c.args.place c.take_out-waiting.result c.requires.inside
    c.take_out-waiting.ensures.taken c.requires.ready).lettered

pub returns-clause-does : goal.returns-clause-does
returns-clause-does g c = λ o h us d stand s.
    let m = g.R.Records.meaning in
    let runs = g.R.Statements.runs in
    let r = c.args.r.now in
    let all = c.args.sessions.now.transactions in
    let ps = c.args.sessions.now.pending.items in
    let p = c.take_out-waiting.result in
    let left = left_stand m runs r all ps c.args.place p c.requires.inside c.take_out-waiting.ensures.taken
    c.requires.ready o h us d stand s in
    let there = stand_as m runs r o h all c.take_out-waiting.new.self.transactions (remove ps c.args.place)
    c.take_out-waiting.new.self.pending.items (s.before ++ s.behind) c.take_out-waiting.ensures.transactions
    c.take_out-waiting.ensures.pending left in
    let came = c.go_on.ensures.does o h (s.before ++ s.behind) s.one.course there
    (taken_at m runs r all ps c.args.place p c.requires.inside c.take_out-waiting.ensures.taken c.requires.ready o h us d
    stand s) in
    kept_for m runs r c.go_on.new.r o h c.go_on.new.sessions.transactions c.go_on.new.sessions.pending.items
    (s.before ++ s.behind) p.session s.one.session p.transaction s.one.transaction
    (λ (t : TxNo). Runs o t h (Later s.one.course)) c.go_on.result
    (taken_session m runs r all ps c.args.place p c.requires.inside c.take_out-waiting.ensures.taken c.requires.ready o
    h us d stand s)
    (taken_transaction m runs r all ps c.args.place p c.requires.inside c.take_out-waiting.ensures.taken
    c.requires.ready o h us d stand s) came

pub returns-clause-lettered : goal.returns-clause-lettered
returns-clause-lettered g c =
    (taken_can g.R.Records.meaning g.R.Statements.runs c.args.r.now c.args.sessions.now.transactions
    c.args.sessions.now.pending.items c.args.place c.take_out-waiting.result c.requires.inside
    c.take_out-waiting.ensures.taken c.requires.ready).lettered
