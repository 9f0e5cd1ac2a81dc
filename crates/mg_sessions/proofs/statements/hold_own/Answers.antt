use Rattle.std.proofs.Common.{ap, sym, ◌∙◌, refl}
use Rattle.mg_model.specs.declared.refusal.Refusal.TheVariants.{NoTransaction, Memory}
use Rattle.mg_rows.specs.declared.statement_fault.StatementFault.TheVariants.{Engine}
use Rattle.mg_script.specs.declared.line.LineKind.TheVariants as kinds
use Rattle.mg_script.specs.declared.reply.Reply.{Reply}
use Rattle.mg_script.specs.declared.reply.Reply.TheVariants.{No}
use Rattle.mg_statements.specs.Plain.{plain_of}
use Rattle.mg_transcript.specs.Lines.{Does, declines_held, has_none, wants_memory, holds}
use Rattle.mg_transcript.specs.LegalLaws.{starts_legal}
use Rattle.mg_transcript.specs.OwnEventLaws.{starts_own}
use Rattle.mg_transcript.specs.Steps.{Starts}
use Rattle.mg_courses.specs.BesideLaws.{works_stay_at, works_stay_ready}
use Rattle.mg_courses.specs.declared.statements.Stepped.TheVariants.{More, Ended}
use Rattle.mg_pending.specs.AgreeLaws.{same_busy}
use Rattle.mg_pending.specs.StandingLaws.{live_is_active}
use Rattle.mg_pending.specs.Statements.{transactions_after, pending_after, reply_of_step}
use Rattle.mg_pending.specs.Transactions.{number_in}
use Rattle.mg_sessions.specs.GoLaws.{step_others_ready, step_ready}
use Rattle.mg_sessions.specs.StatementLaws.{begun_done, comes_as, ended_so, kept_does, ready_as, stays_so, went}
use Rattle.mg_sessions.proofs.statements.hold_own.Goals as goal

pub returns-in-None-clause-does : goal.returns-in-None-clause-does
returns-in-None-clause-does g c = λ text parses o h us stand.
    let all = c.args.sessions.now.transactions in
    let ps = c.args.sessions.now.pending.items in
    let none = ap number_in (sym c.of.ensures ∙ c.in-None.is) in
    let free = same_busy g.R.Statements.runs c.args.r.now o h c.args.session ps us stand.agree ∙ c.requires.idle in
    stays_so g.R.Records.meaning g.R.Statements.runs g.met.R.Records.crashes c.args.r.now o h all ps us
    (Does o h c.args.size us (kinds.Held c.args.session text) (No (Engine NoTransaction))) stand
    (declines_held c.args.session text (Engine NoTransaction)
    (has_none (plain_of c.args.statement) free parses c.requires.other (stand.its c.args.session.0 ∙ none)))

pub returns-in-Err-clause-does : goal.returns-in-Err-clause-does
returns-in-Err-clause-does g c = λ text parses o h us stand.
    let all = c.args.sessions.now.transactions in
    let ps = c.args.sessions.now.pending.items in
    comes_as g.R.Records.meaning g.R.Statements.runs c.args.r.now c.args.r.now o h all
    c.reserve.new.self.transactions ps c.reserve.new.self.pending.items
    (λ (reply : Reply). Does o h c.args.size us (kinds.Held c.args.session text) reply)
    (No (Engine Memory)) (No (Engine Memory)) c.reserve.ensures.transactions c.reserve.ensures.pending refl
    (stays_so g.R.Records.meaning g.R.Statements.runs g.met.R.Records.crashes c.args.r.now o h all ps us
    (Does o h c.args.size us (kinds.Held c.args.session text) (No (Engine Memory))) stand
    (wants_memory (kinds.Held c.args.session text)))

pub returns-in-Begun-clause-does : goal.returns-in-Begun-clause-does
returns-in-Begun-clause-does g c = λ text parses o h us stand.
    let m = g.R.Records.meaning in
    let runs = g.R.Statements.runs in
    let all = c.args.sessions.now.transactions in
    let ps = c.args.sessions.now.pending.items in
    let its = ap number_in (sym c.of.ensures ∙ c.in-Some.is) in
    let t = c.in-Some.own.number in
    let free = same_busy runs c.args.r.now o h c.args.session ps us stand.agree ∙ c.requires.idle in
    let active = live_is_active m runs c.args.r.now o h all ps us c.args.session.0 t stand its in
    let mode = stand.modes c.args.session.0 c.in-Some.own (sym c.of.ensures ∙ c.in-Some.is) in
    let done = c.in-Begun.ensures.starts o h stand.stands active mode in
    comes_as m runs c.args.r.now c.start.new.r o h all c.keep.new.self.transactions
    (pending_after c.args.session t c.in-Begun.work More ps) c.keep.new.self.pending.items
    (λ (reply : Reply). Does o h c.args.size us (kinds.Held c.args.session text) reply) (reply_of_step More)
    c.keep.result (c.keep.ensures.transactions ∙ c.reserve.ensures.transactions)
    (c.keep.ensures.pending ∙ ap (pending_after c.args.session t c.in-Begun.work More) c.reserve.ensures.pending)
    c.keep.ensures.reply
    (kept_does m runs c.args.r.now c.start.new.r o h all (pending_after c.args.session t c.in-Begun.work More ps)
    us c.args.session t (Starts o h t c.args.size (plain_of c.args.statement)) (reply_of_step More)
    (λ (reply : Reply). Does o h c.args.size us (kinds.Held c.args.session text) reply)
    (λ after comes starts. holds c.args.session text t (plain_of c.args.statement) after comes
    (record { free = free; parses = parses; of_transaction = c.requires.other; its = stand.its c.args.session.0 ∙ its })
    starts)
    (went m runs g.met.R.Records.one g.met.R.Records.lasts
    (works_stay_at m runs g.met.R.Statements.courses) c.args.r.now c.start.new.r c.args.session t More all ps
    c.requires.ready its c.requires.idle c.in-Begun.ensures.frames o h us c.in-Begun.work
    (Starts o h t c.args.size (plain_of c.args.statement)) stand
    (begun_done m runs c.args.r.now c.start.new.r o h t (Starts o h t c.args.size (plain_of c.args.statement))
    c.in-Begun.work done) (λ after comes starts. starts_own starts)
    (λ after comes starts. starts_legal starts stand.legal)))

pub returns-in-Begun-clause-ready : goal.returns-in-Begun-clause-ready
returns-in-Begun-clause-ready g c =
    let m = g.R.Records.meaning in
    let runs = g.R.Statements.runs in
    let all = c.args.sessions.now.transactions in
    let ps = c.args.sessions.now.pending.items in
    let its = ap number_in (sym c.of.ensures ∙ c.in-Some.is) in
    let t = c.in-Some.own.number in
    ready_as m runs c.start.new.r all c.keep.new.self.transactions
    (pending_after c.args.session t c.in-Begun.work More ps) c.keep.new.self.pending.items
    (c.keep.ensures.transactions ∙ c.reserve.ensures.transactions)
    (c.keep.ensures.pending ∙ ap (pending_after c.args.session t c.in-Begun.work More) c.reserve.ensures.pending)
    (step_ready m runs g.met.R.Records.one c.args.r.now c.start.new.r c.args.session t More all ps
    c.requires.ready its c.requires.idle c.in-Begun.ensures.frames
    (works_stay_ready m runs g.met.R.Statements.stay) c.in-Begun.ensures.sessions c.in-Begun.work
    c.requires.lettered c.in-Begun.ensures.ready)

pub returns-in-Ended-clause-does : goal.returns-in-Ended-clause-does
returns-in-Ended-clause-does g c = λ text parses o h us stand.
    let m = g.R.Records.meaning in
    let runs = g.R.Statements.runs in
    let all = c.args.sessions.now.transactions in
    let ps = c.args.sessions.now.pending.items in
    let its = ap number_in (sym c.of.ensures ∙ c.in-Some.is) in
    let t = c.in-Some.own.number in
    let free = same_busy runs c.args.r.now o h c.args.session ps us stand.agree ∙ c.requires.idle in
    let active = live_is_active m runs c.args.r.now o h all ps us c.args.session.0 t stand its in
    let mode = stand.modes c.args.session.0 c.in-Some.own (sym c.of.ensures ∙ c.in-Some.is) in
    let done = c.in-Ended.ensures.starts o h stand.stands active mode in
    let ending = c.in-Ended.ending in
    comes_as m runs c.args.r.now c.start.new.r o h (transactions_after c.args.session.0 (Ended ending) all)
    c.end.new.self.transactions ps c.end.new.self.pending.items
    (λ (reply : Reply). Does o h c.args.size us (kinds.Held c.args.session text) reply) ending.reply c.end.result
    (c.end.ensures.transactions
    ∙ ap (transactions_after c.args.session.0 (Ended ending)) c.reserve.ensures.transactions)
    (c.end.ensures.pending ∙ c.reserve.ensures.pending) c.end.ensures.reply
    (ended_so m runs g.met.R.Records.one (works_stay_at m runs g.met.R.Statements.courses) c.args.r.now
    c.start.new.r c.args.session t ending all ps c.requires.ready its c.requires.idle c.in-Ended.ensures.frames o
    h us c.args.size (plain_of c.args.statement)
    (λ (reply : Reply). Does o h c.args.size us (kinds.Held c.args.session text) reply)
    (λ after comes starts goes. holds c.args.session text t (plain_of c.args.statement) after comes
    (record { free = free; parses = parses; of_transaction = c.requires.other; its = stand.its c.args.session.0 ∙ its })
    starts) stand done)

pub returns-in-Ended-clause-ready : goal.returns-in-Ended-clause-ready
returns-in-Ended-clause-ready g c =
    let m = g.R.Records.meaning in
    let runs = g.R.Statements.runs in
    let all = c.args.sessions.now.transactions in
    let ps = c.args.sessions.now.pending.items in
    let its = ap number_in (sym c.of.ensures ∙ c.in-Some.is) in
    let ending = c.in-Ended.ending in
    ready_as m runs c.start.new.r (transactions_after c.args.session.0 (Ended ending) all)
    c.end.new.self.transactions ps c.end.new.self.pending.items
    (c.end.ensures.transactions
    ∙ ap (transactions_after c.args.session.0 (Ended ending)) c.reserve.ensures.transactions)
    (c.end.ensures.pending ∙ c.reserve.ensures.pending)
    (step_others_ready m runs g.met.R.Records.one c.args.r.now c.start.new.r c.args.session
    c.in-Some.own.number (Ended ending) all ps c.requires.ready its c.requires.idle c.in-Ended.ensures.frames
    (works_stay_ready m runs g.met.R.Statements.stay) c.in-Ended.ensures.sessions)
