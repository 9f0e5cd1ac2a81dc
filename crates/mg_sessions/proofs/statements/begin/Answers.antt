use Rattle.std.proofs.Common.{Some, ap, sym, ◌∙◌, refl}
use Rattle.std.specs.Prelude.{set}
use Rattle.mg_model.specs.declared.answer.Answer.TheVariants as answers
use Rattle.mg_rows.specs.declared.statement_fault.StatementFault.TheVariants.{Engine, InTransaction}
use Rattle.mg_script.specs.declared.line.LineKind.TheVariants as kinds
use Rattle.mg_script.specs.declared.reply.Reply.{Reply}
use Rattle.mg_script.specs.declared.reply.Reply.TheVariants as replies
use Rattle.mg_statements.specs.Plain.{SetTransaction}
use Rattle.mg_transcript.specs.Lines.{Does, declines, has_one, begins_one}
use Rattle.mg_courses.specs.BesideLaws.{works_stay_at, works_stay_ready}
use Rattle.mg_pending.specs.AgreeLaws.{same_busy}
use Rattle.mg_pending.specs.BeginLaws.{begun_one}
use Rattle.mg_pending.specs.Transactions.{number_in}
use Rattle.mg_sessions.proofs.BeginLemmas.{begun_all_ready, begun_comes, refused_comes, refused_ready}
use Rattle.mg_sessions.specs.StatementLaws.{comes_as, ready_as, stays_so, within}
use Rattle.mg_sessions.proofs.statements.begin.Goals as goal

pub returns-in-Some-clause-does : goal.returns-in-Some-clause-does
returns-in-Some-clause-does g c = λ text size parses o h us stand.
    let all = c.args.sessions.now.transactions in
    let ps = c.args.sessions.now.pending.items in
    let free = same_busy g.R.Statements.runs c.args.r.now o h c.args.session ps us stand.agree ∙ c.requires.idle in
    let its = ap number_in (sym c.of.ensures ∙ c.in-Some.is) in
    stays_so g.R.Records.meaning g.R.Statements.runs g.met.R.Records.crashes c.args.r.now o h all ps us
    (Does o h size us (kinds.Sql c.args.session text) (replies.No InTransaction)) stand
    (declines c.args.session text InTransaction
    (has_one (SetTransaction c.args.mode.read_only c.args.mode.wait c.args.mode.snapshot)
    c.in-Some.field-0.number free parses refl (stand.its c.args.session.0 ∙ its)))

pub returns-in-Ok-clause-does : goal.returns-in-Ok-clause-does
returns-in-Ok-clause-does g c = λ text size parses o h us stand.
    let m = g.R.Records.meaning in
    let runs = g.R.Statements.runs in
    let all = c.args.sessions.now.transactions in
    let ps = c.args.sessions.now.pending.items in
    let none = ap number_in (sym c.of.ensures ∙ c.in-None.is) in
    let free = same_busy runs c.args.r.now o h c.args.session ps us stand.agree ∙ c.requires.idle in
    let t = c.in-Ok.number in
    comes_as m runs c.args.r.now c.begin.new.self o h
    (set all c.args.session.0 (Some (begun_one t c.args.mode.read_only))) c.begin-in-Ok.new.self ps ps
    (λ (reply : Reply). Does o h size us (kinds.Sql c.args.session text) reply) (replies.Tx t) (replies.Tx t)
    c.begin-in-Ok.ensures refl refl
    (begun_comes m runs g.met.R.Records.one g.met.R.Records.lasts c.args.r.now c.begin.new.self
    c.args.session.0 c.args.mode all ps c.requires.ready (within c.args.session.0 c.requires.lettered) none t c.in-Ok.ensures.leaves c.in-Ok.ensures.told
    (works_stay_at m runs g.met.R.Statements.courses) c.in-Ok.ensures.works c.in-Ok.ensures.sessions
    c.in-Ok.ensures.adds c.in-Ok.ensures.undamaged c.in-Ok.ensures.crash o h us
    (Does o h size us (kinds.Sql c.args.session text) (replies.Tx t)) stand
    (begins_one c.args.session text c.args.mode.read_only c.args.mode.wait c.args.mode.snapshot (answers.Tx t)
    free parses (stand.its c.args.session.0 ∙ none) (c.in-Ok.ensures.adds o h stand.stands).0))

pub returns-in-Ok-clause-ready : goal.returns-in-Ok-clause-ready
returns-in-Ok-clause-ready g c =
    let m = g.R.Records.meaning in
    let runs = g.R.Statements.runs in
    let all = c.args.sessions.now.transactions in
    let ps = c.args.sessions.now.pending.items in
    let none = ap number_in (sym c.of.ensures ∙ c.in-None.is) in
    let t = c.in-Ok.number in
    ready_as m runs c.begin.new.self (set all c.args.session.0 (Some (begun_one t c.args.mode.read_only)))
    c.begin-in-Ok.new.self ps ps c.begin-in-Ok.ensures refl
    (begun_all_ready m runs g.met.R.Records.one g.met.R.Records.lasts c.args.r.now c.begin.new.self
    c.args.session.0 c.args.mode all ps c.requires.ready (within c.args.session.0 c.requires.lettered) none t
    c.in-Ok.ensures.leaves c.in-Ok.ensures.told (works_stay_ready m runs g.met.R.Statements.stay) c.in-Ok.ensures.works
    c.in-Ok.ensures.sessions)

pub returns-in-Err-clause-does : goal.returns-in-Err-clause-does
returns-in-Err-clause-does g c = λ text size parses o h us stand.
    let m = g.R.Records.meaning in
    let runs = g.R.Statements.runs in
    let all = c.args.sessions.now.transactions in
    let ps = c.args.sessions.now.pending.items in
    let none = ap number_in (sym c.of.ensures ∙ c.in-None.is) in
    let free = same_busy runs c.args.r.now o h c.args.session ps us stand.agree ∙ c.requires.idle in
    let refusal = c.in-Err.refusal in
    refused_comes m runs g.met.R.Records.one g.met.R.Records.lasts c.args.r.now c.begin.new.self
    c.args.session.0 c.args.mode all ps c.requires.ready (within c.args.session.0 c.requires.lettered) none refusal
    c.in-Err.ensures.leaves c.in-Err.ensures.told (works_stay_at m runs g.met.R.Statements.courses) c.in-Err.ensures.adds
    c.in-Err.ensures.undamaged c.in-Err.ensures.crash o h us
    (Does o h size us (kinds.Sql c.args.session text) (replies.No (Engine refusal))) stand
    (begins_one c.args.session text c.args.mode.read_only c.args.mode.wait c.args.mode.snapshot
    (answers.No refusal) free parses (stand.its c.args.session.0 ∙ none) (c.in-Err.ensures.adds o h stand.stands).0)

pub returns-in-Err-clause-ready : goal.returns-in-Err-clause-ready
returns-in-Err-clause-ready g c =
    let m = g.R.Records.meaning in
    let runs = g.R.Statements.runs in
    let all = c.args.sessions.now.transactions in
    let ps = c.args.sessions.now.pending.items in
    let none = ap number_in (sym c.of.ensures ∙ c.in-None.is) in
    refused_ready m runs g.met.R.Records.one g.met.R.Records.lasts c.args.r.now c.begin.new.self
    c.args.session.0 c.args.mode all ps c.requires.ready (within c.args.session.0 c.requires.lettered) none
    c.in-Err.refusal c.in-Err.ensures.leaves c.in-Err.ensures.told (works_stay_ready m runs g.met.R.Statements.stay)
    c.in-Err.ensures.sessions
