use Rattle.std.proofs.Common.{◌≡◌, true, List, None, Some, ap, sym, ◌∙◌, refl, subst, w64}
use Rattle.std.proofs.lemmas.Int.{to_z-of_z}
use Rattle.mg_model.specs.History.{Entries}
use Rattle.mg_script.specs.declared.line.LineKind.TheVariants as kinds
use Rattle.mg_script.specs.declared.reply.Reply.{Reply}
use Rattle.mg_script.specs.declared.reply.Reply.TheVariants.{No}
use Rattle.mg_transcript.specs.LegalLaws.{does_legal}
use Rattle.mg_transcript.specs.Lines.{Does, gets}
use Rattle.mg_transcript.specs.Sessions.{Unfinished}
use Rattle.mg_transcript.specs.Shorthand.{Gets, begins_one, getting}
use Rattle.mg_courses.specs.declared.statements.Stepped.TheVariants.{Ended}
use Rattle.mg_courses.specs.BesideLaws.{works_stay_at, works_stay_ready}
use Rattle.mg_courses.specs.Running.{refusal_answered}
use Rattle.mg_pending.specs.Standing.{StandAt}
use Rattle.mg_pending.specs.Statements.{transactions_after}
use Rattle.mg_pending.specs.Transactions.{number_in}
use Rattle.mg_sessions.specs.Accounts.{Accounts}
use Rattle.mg_sessions.specs.Own.{OWN, begun_with}
use Rattle.mg_sessions.proofs.OwnLemmas.{none_begun, own_account, own_comes, own_ready}
use Rattle.mg_sessions.specs.StatementLaws.{comes_as, ready_as}
use Rattle.mg_sessions.proofs.shorthand.obey_get.Goals as goal

pub get-ending-requires : goal.get-ending-requires
get-ending-requires g c = record { size = c.in-Ok.ensures.sizes c.args.size ∙ c.requires.size }

pub returns-in-Ok-clause-does : goal.returns-in-Ok-clause-does
returns-in-Ok-clause-does g c = λ o h us stand.
    let m = g.R.Records.meaning in
    let runs = g.R.Statements.runs in
    let one = g.met.R.Records.one in
    let lasts = g.met.R.Records.lasts in
    let t = c.in-Ok.t in
    let key = c.args.key in
    let ending = c.get-ending.result in
    let mid = c.begin_own.new.r in
    let new = c.get-ending.new.r in
    let all = c.begin_own.new.sessions.transactions in
    let ps = c.begin_own.new.sessions.pending.items in
    let begun = c.in-Ok.ensures.begins o h us stand in
    let there = subst (λ (x : List Unfinished). StandAt m runs mid o begun.after all ps x) begun.does.1 begun.stand in
    let goes = rw (to_z-of_z w64 c.args.key c.ranges.key) at c.get-ending.ensures.goes in
    comes_as m runs c.args.r.now new o h (transactions_after OWN (Ended ending) all) c.end.new.self.transactions ps
    c.end.new.self.pending.items (λ (reply : Reply). Does o h c.args.size us (kinds.Get c.args.key) reply) ending.reply
    c.end.result c.end.ensures.transactions c.end.ensures.pending c.end.ensures.reply
    (own_comes m runs one lasts c.args.r.now mid new t ending all ps c.in-Ok.ensures.ready
    (ap number_in c.in-Ok.ensures.own) c.get-ending.ensures.spares (works_stay_at m runs g.met.R.Statements.courses) o
    h begun.after us (λ after. Gets o key c.args.size begun.after t after ending.reply)
    (λ after then_. Does o h c.args.size us (kinds.Get c.args.key) ending.reply after then_) there begun.carries
    (λ after does. gets key after ending.reply (begins_one t after ending.reply begun.does.0.none
    begun.does.0.lawful (subst (λ (b : Entries). Gets o key c.args.size b t after ending.reply) begun.does.0.is does)))
    (λ after does. does_legal does stand.legal) (goes o begun.after (there.modes OWN (begun_with t true) c.in-Ok.ensures.own)))

pub returns-in-Ok-clause-ready : goal.returns-in-Ok-clause-ready
returns-in-Ok-clause-ready g c =
    let m = g.R.Records.meaning in
    let runs = g.R.Statements.runs in
    let ending = c.get-ending.result in
    let all = c.begin_own.new.sessions.transactions in
    let ps = c.begin_own.new.sessions.pending.items in
    ready_as m runs c.get-ending.new.r (transactions_after OWN (Ended ending) all) c.end.new.self.transactions ps
    c.end.new.self.pending.items c.end.ensures.transactions c.end.ensures.pending
    (own_ready m runs g.met.R.Records.one g.met.R.Records.lasts c.args.r.now c.begin_own.new.r c.get-ending.new.r
    c.in-Ok.t ending all ps c.in-Ok.ensures.ready (ap number_in c.in-Ok.ensures.own) c.get-ending.ensures.spares
    (works_stay_ready m runs g.met.R.Statements.stay))

pub returns-in-Ok-clause-accounts : goal.returns-in-Ok-clause-accounts
returns-in-Ok-clause-accounts g c =
    let m = g.R.Records.meaning in
    let ending = c.get-ending.result in
    subst (λ (x : Reply). Accounts m c.args.r.now c.get-ending.new.r (refusal_answered x)) (sym c.end.ensures.reply)
    (own_account m g.R.Statements.runs g.met.R.Records.one g.met.R.Records.lasts c.args.r.now c.begin_own.new.r
    c.get-ending.new.r c.in-Ok.t ending c.begin_own.new.sessions.transactions
    c.begin_own.new.sessions.pending.items c.in-Ok.ensures.ready (ap number_in c.in-Ok.ensures.own)
    c.get-ending.ensures.spares c.in-Ok.ensures.accounts)

pub returns-in-Err-clause-does : goal.returns-in-Err-clause-does
returns-in-Err-clause-does g c = λ o h us stand.
    let begun = c.in-Err.ensures.begins o h us stand in
    let fault = c.in-Err.fault in
    record {
      after = begun.after;
      then_ = begun.then_;
      does = subst (λ (x : List Unfinished). Does o h c.args.size us (kinds.Get c.args.key) (No fault) begun.after x)
          (sym begun.does.1)
          (gets c.args.key begun.after (No fault)
          (none_begun o h getting (Gets o c.args.key c.args.size) fault begun.after begun.does.0));
      stand = begun.stand;
      carries = begun.carries;
    }
