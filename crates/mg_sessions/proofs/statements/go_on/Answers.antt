use Rattle.mg_script.specs.declared.reply.Reply.{Reply}
use Rattle.mg_transcript.specs.Courses.{Later}
use Rattle.mg_transcript.specs.LegalLaws.{runs_legal}
use Rattle.mg_transcript.specs.OwnEventLaws.{runs_own}
use Rattle.mg_transcript.specs.Steps.{Runs}
use Rattle.mg_courses.specs.BesideLaws.{works_stay_at, works_stay_ready}
use Rattle.mg_pending.specs.Statements.{transactions_after, pending_after, reply_of_step}
use Rattle.mg_pending.specs.StandingLaws.{live_is_active}
use Rattle.mg_sessions.specs.Coming.{IsKept}
use Rattle.mg_sessions.specs.GoLaws.{step_ready}
use Rattle.mg_sessions.specs.StatementLaws.{comes_as, ready_as, went}
use Rattle.mg_sessions.proofs.statements.go_on.Goals as goal

pub returns-clause-does : goal.returns-clause-does
returns-clause-does g c = λ o h us course stand at_work.
    let m = g.R.Records.meaning in
    let runs = g.R.Statements.runs in
    let all = c.args.sessions.now.transactions in
    let ps = c.args.sessions.now.pending.items in
    let active = live_is_active m runs c.args.r.now o h all ps us c.args.session.0 c.args.t stand c.requires.its in
    let done = c.run-stepped.ensures.runs o h course stand.stands active at_work in
    comes_as m runs c.args.r.now c.run-stepped.new.r o h
    (transactions_after c.args.session.0 c.run-stepped.result all) c.keep.new.self.transactions
    (pending_after c.args.session c.args.t c.run-stepped.new.work c.run-stepped.result ps) c.keep.new.self.pending.items
    (λ (reply : Reply). IsKept c.args.session c.args.t us (Runs o c.args.t h (Later course)) reply)
    (reply_of_step c.run-stepped.result) c.keep.result c.keep.ensures.transactions c.keep.ensures.pending
    c.keep.ensures.reply
    (went m runs g.met.R.Records.one g.met.R.Records.lasts
    (works_stay_at m runs g.met.R.Statements.courses) c.args.r.now c.run-stepped.new.r c.args.session c.args.t
    c.run-stepped.result all ps c.requires.ready c.requires.its c.requires.idle c.run-stepped.ensures.frames o h us
    c.run-stepped.new.work (Runs o c.args.t h (Later course)) stand done (λ after comes by_it. runs_own by_it)
    (λ after comes by_it. runs_legal by_it stand.legal))

pub returns-clause-ready : goal.returns-clause-ready
returns-clause-ready g c =
    let m = g.R.Records.meaning in
    let runs = g.R.Statements.runs in
    let all = c.args.sessions.now.transactions in
    let ps = c.args.sessions.now.pending.items in
    ready_as m runs c.run-stepped.new.r (transactions_after c.args.session.0 c.run-stepped.result all)
    c.keep.new.self.transactions (pending_after c.args.session c.args.t c.run-stepped.new.work c.run-stepped.result ps)
    c.keep.new.self.pending.items c.keep.ensures.transactions c.keep.ensures.pending
    (step_ready m runs g.met.R.Records.one c.args.r.now c.run-stepped.new.r c.args.session c.args.t c.run-stepped.result all
    ps c.requires.ready c.requires.its c.requires.idle c.run-stepped.ensures.frames
    (works_stay_ready m runs g.met.R.Statements.stay) c.run-stepped.ensures.sessions c.run-stepped.new.work
    c.requires.lettered c.run-stepped.ensures.ready)
