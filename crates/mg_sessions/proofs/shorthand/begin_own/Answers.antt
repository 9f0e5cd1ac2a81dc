use Rattle.std.proofs.Common.{◌≡◌, List, Option, None, Some, ap, sym, ◌∙◌, refl, arith, subst, lit<}
use Rattle.mg_model.specs.History.{Entries}
use Rattle.mg_rows.specs.declared.statement_fault.StatementFault.TheVariants.{Engine, InTransaction}
use Rattle.mg_transcript.specs.Sessions.{Unfinished}
use Rattle.mg_courses.specs.BesideLaws.{works_stay_at, works_stay_ready}
use Rattle.mg_pending.specs.declared.transactions.Transaction.{Transaction}
use Rattle.mg_pending.specs.BeginLaws.{begun_one}
use Rattle.mg_pending.specs.Standing.{AreReady}
use Rattle.mg_pending.specs.TransactionLaws.{placed_same}
use Rattle.mg_pending.specs.Transactions.{number_in, transaction_at}
use Rattle.mg_sessions.specs.AccountLaws.{no_account}
use Rattle.mg_sessions.specs.Coming.{ComesTo}
use Rattle.mg_sessions.specs.Own.{BeginsNone, BeginsOne, OWN, is_refused, one_still}
use Rattle.mg_sessions.proofs.BeginLemmas.{begun_account, begun_all_ready, begun_comes, refused_account, refused_comes, refused_ready}
use Rattle.mg_sessions.specs.StatementLaws.{stays_so}
use Rattle.mg_sessions.proofs.shorthand.begin_own.Goals as goal

pub begin-requires-clause-free : goal.begin-requires-clause-free
begin-requires-clause-free g c = c.requires.ready.free OWN (ap number_in (sym c.of.ensures ∙ c.in-None.is))

pub returns-in-Some-clause-begins : goal.returns-in-Some-clause-begins
returns-in-Some-clause-begins g c = λ o h us stand.
    stays_so g.R.Records.meaning g.R.Statements.runs g.met.R.Records.crashes c.args.r.now o h
    c.args.sessions.now.transactions c.args.sessions.now.pending.items us
    (λ after then_. BeginsNone o h c.args.mode InTransaction after × (then_ ≡ us)) stand
    (one_still c.in-Some.field-0.number (stand.its OWN ∙ ap number_in (sym c.of.ensures ∙ c.in-Some.is)), refl)

pub returns-in-Some-clause-accounts : goal.returns-in-Some-clause-accounts
returns-in-Some-clause-accounts g c = no_account g.R.Records.meaning c.args.r.now None tt

pub returns-in-Ok-clause-begins : goal.returns-in-Ok-clause-begins
returns-in-Ok-clause-begins g c = λ o h us stand.
    let m = g.R.Records.meaning in
    let runs = g.R.Statements.runs in
    let all = c.args.sessions.now.transactions in
    let ps = c.args.sessions.now.pending.items in
    let none = ap number_in (sym c.of.ensures ∙ c.in-None.is) in
    let t = c.in-Ok.number in
    let mode = c.args.mode in
    subst (λ (a : List (Option Transaction)). ComesTo m runs c.args.r.now c.begin.new.self o h a ps
    (λ after then_. BeginsOne o h mode t after × (then_ ≡ us))) (sym c.begin-in-Ok.ensures)
    (begun_comes m runs g.met.R.Records.one g.met.R.Records.lasts c.args.r.now c.begin.new.self OWN mode all ps
    c.requires.ready (lit< tt) none t c.in-Ok.ensures.leaves c.in-Ok.ensures.told (works_stay_at m runs g.met.R.Statements.courses)
    c.in-Ok.ensures.works c.in-Ok.ensures.sessions c.in-Ok.ensures.adds
    c.in-Ok.ensures.undamaged c.in-Ok.ensures.crash o h us
    (λ after then_. BeginsOne o h mode t after × (then_ ≡ us)) stand
    (record { none = stand.its OWN ∙ none; lawful = (c.in-Ok.ensures.adds o h stand.stands).0; is = refl }, refl))

pub returns-in-Ok-clause-own : goal.returns-in-Ok-clause-own
returns-in-Ok-clause-own g c =
    let all = c.args.sessions.now.transactions in
    let places = c.requires.ready.places in
    ap (λ (a : List (Option Transaction)). transaction_at a OWN) c.begin-in-Ok.ensures
    ∙ placed_same all OWN (Some (begun_one c.in-Ok.number c.args.mode.read_only)) (omega (arith, places))

pub returns-in-Ok-clause-ready : goal.returns-in-Ok-clause-ready
returns-in-Ok-clause-ready g c =
    let m = g.R.Records.meaning in
    let runs = g.R.Statements.runs in
    let all = c.args.sessions.now.transactions in
    let ps = c.args.sessions.now.pending.items in
    let none = ap number_in (sym c.of.ensures ∙ c.in-None.is) in
    subst (λ (a : List (Option Transaction)). AreReady m runs c.begin.new.self a ps) (sym c.begin-in-Ok.ensures)
    (begun_all_ready m runs g.met.R.Records.one g.met.R.Records.lasts c.args.r.now c.begin.new.self OWN c.args.mode
    all ps c.requires.ready (lit< tt) none c.in-Ok.number c.in-Ok.ensures.leaves c.in-Ok.ensures.told
    (works_stay_ready m runs g.met.R.Statements.stay) c.in-Ok.ensures.works c.in-Ok.ensures.sessions)

pub returns-in-Ok-clause-accounts : goal.returns-in-Ok-clause-accounts
returns-in-Ok-clause-accounts g c =
    let m = g.R.Records.meaning in
    let none = ap number_in (sym c.of.ensures ∙ c.in-None.is) in
    begun_account m g.R.Statements.runs g.met.R.Records.one g.met.R.Records.lasts c.args.r.now c.begin.new.self OWN
    c.args.mode c.args.sessions.now.transactions c.args.sessions.now.pending.items c.requires.ready (lit< tt) none
    c.in-Ok.number c.in-Ok.ensures.leaves c.in-Ok.ensures.told

pub returns-in-Err-clause-begins : goal.returns-in-Err-clause-begins
returns-in-Err-clause-begins g c = λ o h us stand.
    let m = g.R.Records.meaning in
    let runs = g.R.Statements.runs in
    let none = ap number_in (sym c.of.ensures ∙ c.in-None.is) in
    let refusal = c.in-Err.refusal in
    let mode = c.args.mode in
    refused_comes m runs g.met.R.Records.one g.met.R.Records.lasts c.args.r.now c.begin.new.self OWN mode
    c.args.sessions.now.transactions c.args.sessions.now.pending.items c.requires.ready (lit< tt) none refusal
    c.in-Err.ensures.leaves c.in-Err.ensures.told (works_stay_at m runs g.met.R.Statements.courses) c.in-Err.ensures.adds
    c.in-Err.ensures.undamaged c.in-Err.ensures.crash o h us
    (λ after then_. BeginsNone o h mode (Engine refusal) after × (then_ ≡ us)) stand
    (is_refused refusal (stand.its OWN ∙ none) (c.in-Err.ensures.adds o h stand.stands).0, refl)

pub returns-in-Err-clause-ready : goal.returns-in-Err-clause-ready
returns-in-Err-clause-ready g c =
    let m = g.R.Records.meaning in
    let runs = g.R.Statements.runs in
    let none = ap number_in (sym c.of.ensures ∙ c.in-None.is) in
    refused_ready m runs g.met.R.Records.one g.met.R.Records.lasts c.args.r.now c.begin.new.self OWN c.args.mode
    c.args.sessions.now.transactions c.args.sessions.now.pending.items c.requires.ready (lit< tt) none
    c.in-Err.refusal c.in-Err.ensures.leaves c.in-Err.ensures.told (works_stay_ready m runs g.met.R.Statements.stay)
    c.in-Err.ensures.sessions

pub returns-in-Err-clause-accounts : goal.returns-in-Err-clause-accounts
returns-in-Err-clause-accounts g c =
    let none = ap number_in (sym c.of.ensures ∙ c.in-None.is) in
    refused_account g.R.Records.meaning g.R.Statements.runs g.met.R.Records.one g.met.R.Records.lasts c.args.r.now
    c.begin.new.self OWN c.args.mode c.args.sessions.now.transactions c.args.sessions.now.pending.items
    c.requires.ready (lit< tt) none c.in-Err.refusal c.in-Err.ensures.leaves c.in-Err.ensures.told
