use Rattle.std.proofs.Common.{List, Bool, ap, ◌∙◌, ◌≡◌, refl}
use Rattle.mg_model.specs.History.{Entries}
use Rattle.mg_script.specs.declared.reply.Reply.{Reply}
use Rattle.mg_script.specs.declared.reply.Reply.TheVariants.{Held}
use Rattle.mg_transcript.specs.Sessions.{Unfinished}
use Rattle.mg_interleavings.specs.Interleavings.{TimesOut}
use Rattle.mg_courses.specs.BesideLaws.{works_stay_at, works_stay_ready}
use Rattle.mg_pending.specs.StandingLaws.{ended_at}
use Rattle.mg_sessions.specs.StatementLaws.{comes_as, ready_as, within}
use Rattle.mg_floor.specs.Answering.{ends_by}
use Rattle.mg_floor.proofs.GivingUpLemmas.{given_account, given_comes, given_ready}
use Rattle.mg_floor.proofs.giving_up.give_up_one.Goals as goal

pub end_if-requires : goal.end_if-requires
end_if-requires g c = within c.args.session.0 c.requires.lettered

pub returns-clause-ready : goal.returns-clause-ready
returns-clause-ready g c =
    let m = g.R.Records.meaning in
    let runs = g.R.Statements.runs in
    let all = c.args.sessions.now.transactions in
    let ps = c.args.sessions.now.pending.items in
    let answer = c.give_up-answered.result in
    ready_as m runs c.give_up-answered.new.r (ended_at c.args.session.0 (ends_by answer) all) c.end_if.new.transactions ps ps
    (c.end_if.ensures ∙ ap (λ (b : Bool). ended_at c.args.session.0 b all) c.ends-over.ensures) refl
    (given_ready m runs g.met.R.Records.one g.met.R.Records.lasts (works_stay_at m runs g.met.R.Statements.courses)
    (works_stay_ready m runs g.met.R.Statements.stay) c.args.r.now c.give_up-answered.new.r c.args.session c.args.t c.args.on
    answer all ps c.requires.ready c.requires.its c.requires.idle c.give_up-answered.ensures.gives)

pub returns-clause-accounts : goal.returns-clause-accounts
returns-clause-accounts g c =
    let m = g.R.Records.meaning in
    let runs = g.R.Statements.runs in
    given_account m runs g.met.R.Records.one g.met.R.Records.lasts (works_stay_at m runs g.met.R.Statements.courses)
    (works_stay_ready m runs g.met.R.Statements.stay) c.args.r.now c.give_up-answered.new.r c.args.session c.args.t c.args.on
    c.give_up-answered.result c.args.sessions.now.transactions c.args.sessions.now.pending.items c.requires.ready
    c.requires.its c.requires.idle c.give_up-answered.ensures.gives

pub returns-clause-does : goal.returns-clause-does
returns-clause-does g c = λ o h us stand.
    let m = g.R.Records.meaning in
    let runs = g.R.Statements.runs in
    let all = c.args.sessions.now.transactions in
    let ps = c.args.sessions.now.pending.items in
    let answer = c.give_up-answered.result in
    comes_as m runs c.args.r.now c.give_up-answered.new.r o h (ended_at c.args.session.0 (ends_by answer) all)
    c.end_if.new.transactions ps ps
    (λ (reply : Reply) (after : Entries) (then_ : List Unfinished). TimesOut o h c.args.t c.args.on after answer × (then_ ≡ us))
    Held Held (c.end_if.ensures ∙ ap (λ (b : Bool). ended_at c.args.session.0 b all) c.ends-over.ensures) refl refl
    (given_comes m runs g.met.R.Records.one g.met.R.Records.lasts (works_stay_at m runs g.met.R.Statements.courses)
    (works_stay_ready m runs g.met.R.Statements.stay) c.args.r.now c.give_up-answered.new.r c.args.session c.args.t c.args.on
    answer all ps c.requires.ready c.requires.its c.requires.idle c.give_up-answered.ensures.gives o h us stand)
