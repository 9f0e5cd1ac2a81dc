-- A line that is a transaction of its own: it begins, does what it is for, and is at its end.
use Rattle.std.proofs.Common.{◌≡◌, ◌<◌, ◌==◌, ◌||◌, ℕ, false, List, [], ◌∷◌, Option, None, Some, refl, sym, ap, ◌∙◌, subst, arith}
use Rattle.std.specs.Prelude.{set}
use Rattle.std.proofs.lemmas.Bool.{ne_eqb}
use Rattle.mg_base.specs.declared.numbers.TxNo.{TxNo}
use Rattle.mg_model.specs.declared.answer.Answer.TheVariants as answers
use Rattle.mg_model.specs.declared.event.Event.TheVariants as events
use Rattle.mg_model.specs.declared.event.Mode.{Mode}
use Rattle.mg_model.specs.declared.opening.Opening.{Opening}
use Rattle.mg_model.specs.declared.refusal.Refusal.{Refusal}
use Rattle.mg_model.specs.History.{Entries, entry}
use Rattle.mg_model.specs.Legal.{IsLegal}
use Rattle.mg_records.specs.Crashing.{HoldsOn}
use Rattle.mg_records.specs.Meaning.{Means}
use Rattle.mg_records.specs.Sessions.{SessionsAreOne}
use Rattle.mg_rows.specs.declared.statement_fault.StatementFault.{StatementFault}
use Rattle.mg_rows.specs.declared.statement_fault.StatementFault.TheVariants.{Engine}
use Rattle.mg_script.specs.declared.line.Session.{Session}
use Rattle.mg_script.specs.declared.line.TheConstants.{SESSIONS}
use Rattle.mg_script.specs.declared.reply.Reply.{Reply}
use Rattle.mg_script.specs.declared.reply.Reply.TheVariants as replies
use Rattle.mg_transcript.specs.Sessions.{Unfinished}
use Rattle.mg_transcript.specs.Shorthand.{InTransactionOfItsOwn, has_one, begins_none}
use Rattle.mg_courses.specs.declared.statements.Ending.{Ending}
use Rattle.mg_courses.specs.declared.statements.Stepped.TheVariants.{Ended}
use Rattle.mg_courses.specs.BesideLaws.{WorksStayReady, WorksStayAt}
use Rattle.mg_courses.specs.Carrying.{Carries}
use Rattle.mg_courses.specs.CarryLaws.{carries_then}
use Rattle.mg_courses.specs.Running.{RunMeans, refusal_answered}
use Rattle.mg_pending.specs.declared.pending.Pending.{Pending}
use Rattle.mg_pending.specs.declared.transactions.Transaction.{Transaction}
use Rattle.mg_pending.specs.Standing.{AllCanGoOn, AreReady, StandAt}
use Rattle.mg_pending.specs.StandingLaws.{live_is_active}
use Rattle.mg_pending.specs.Statements.{has_statement, is_its, transactions_after}
use Rattle.mg_pending.specs.Transactions.{number_at}
use Rattle.mg_shorthand.specs.Going.{GoesAt, Spares, Went}
use Rattle.mg_sessions.specs.Accounts.{Accounts}
use Rattle.mg_sessions.specs.AccountLaws.{account_after, account_of}
use Rattle.mg_sessions.specs.Coming.{ComesTo}
use Rattle.mg_sessions.specs.Own.{BeginsNone, BeginsOne, OWN, is_refused, one_still}
use Rattle.mg_sessions.specs.GoLaws.{step_others_ready, step_others_stand}

-- no statement is of this session, which has no letter
pub own_idle : {R P Run : Type 0} (m : Means R P) (runs : RunMeans R Run) (r : R) (all : List (Option Transaction))
    (ps : List (Pending Run)) → AllCanGoOn m runs r all ps → has_statement OWN ps ≡ false
own_idle m runs r all [] can = refl
own_idle m runs r all (p ∷ ps) can =
    let lettered = can.0.lettered in
    let other : is_its OWN p ≡ false = ne_eqb p.session.0 OWN (λ same. absurd (omega (arith, lettered, same))) in
    rw other (own_idle m runs r all ps can.1)

abbrev own : Session
own = record { 0 = OWN }

module _ {R P Run : Type 0} (m : Means R P) (runs : RunMeans R Run) (one : SessionsAreOne m) (lasts : HoldsOn m)
    (old mid new : R) (t : TxNo) (ending : Ending) (all : List (Option Transaction)) (ps : List (Pending Run))
    (ready : AreReady m runs mid all ps) (its : number_at all OWN ≡ Some t)
    (spares : Spares m mid new t (refusal_answered ending.reply) ending.over) where
  pub own_ready : WorksStayReady m runs → AreReady m runs new (transactions_after OWN (Ended ending) all) ps
  own_ready still = step_others_ready m runs one mid new own t (Ended ending) all ps ready its
      (own_idle m runs mid all ps ready.ready) spares.frames still spares.sessions

  pub own_account : Accounts m old mid None → Accounts m old new (refusal_answered ending.reply)
  own_account first = account_after m old mid new (refusal_answered ending.reply) first
      (account_of m mid new t.0 (refusal_answered ending.reply) spares.frames)

  -- what it does comes behind its beginning
  pub own_comes : WorksStayAt m runs → (o : Opening) (h between : Entries) (us : List Unfinished)
      (By : Entries → Type 0) (Whole : Entries → List Unfinished → Type 0) → StandAt m runs mid o between all ps us
      → Carries m old mid o h between → ((after : Entries) → By after → Whole after us)
      → ((after : Entries) → Whole after us → IsLegal o after)
      → GoesAt m mid new o between t ending.over By
      → ComesTo m runs old new o h (transactions_after OWN (Ended ending) all) ps Whole
  own_comes still o h between us By Whole stand carries turn legal goes =
      let went = goes stand.stands (live_is_active m runs mid o between all ps us OWN t stand its) in
      let does = turn went.after went.does in
      record {
        after = went.after;
        then_ = us;
        does = does;
        stand = step_others_stand m runs one mid new own t (Ended ending) all ps ready its
            (own_idle m runs mid all ps ready.ready) spares.frames still o between went.after us stand went.own
            went.stands (legal went.after does) went.active;
        carries = carries_then m lasts old mid new o h between went.after carries went.carries;
      }

-- ---- it does not begin

pub none_begun : (o : Opening) (h : Entries) (mode : Mode)
    (rest : Entries → TxNo → Entries → Reply → Type 0) (fault : StatementFault) (after : Entries)
    → BeginsNone o h mode fault after → InTransactionOfItsOwn o h mode rest after (replies.No fault)
none_begun o h mode rest fault after (one_still t is) = has_one t is
none_begun o h mode rest fault after (is_refused refusal none lawful) = begins_none refusal none lawful
