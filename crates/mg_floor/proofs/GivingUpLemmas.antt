-- What becomes of the others where a statement is given up.
use Rattle.std.proofs.Common.{◌≡◌, ◌==◌, ◌&&◌, inl, ℕ, true, Bool, false, List, ◌∷◌, Option, Some, None, Result, Ok, Err, cond, not, refl, sym, ap, ◌∙◌, subst, if◌then◌else◌}
use Rattle.std.proofs.lemmas.Bool.{eq-eqb}
use Rattle.mg_base.specs.declared.numbers.TxNo.{TxNo}
use Rattle.mg_base.specs.declared.transaction.TxState.{TxState}
use Rattle.mg_base.specs.declared.transaction.TxState.TheVariants.{Active, Dead}
use Rattle.mg_model.specs.declared.answer.Answer.TheVariants as answers
use Rattle.mg_model.specs.declared.event.Event.TheVariants as events
use Rattle.mg_model.specs.declared.opening.Opening.{Opening}
use Rattle.mg_model.specs.declared.refusal.Refusal.{Refusal}
use Rattle.mg_model.specs.Answers.{if_active, is_active}
use Rattle.mg_model.specs.History.{Entries, entry}
use Rattle.mg_model.specs.Legal.{IsLawful, IsLegal}
use Rattle.mg_model.specs.Machine.{state_of}
use Rattle.mg_records.specs.Crashing.{HoldsOn}
use Rattle.mg_records.specs.Keeping.{refusal_in}
use Rattle.mg_records.specs.Meaning.{Means}
use Rattle.mg_records.specs.Sessions.{SessionsAreOne, SessionsStay, given_up_in}
use Rattle.mg_records.specs.TakingBack.{Undoes, after_refusal, is_given_up}
use Rattle.mg_script.specs.declared.line.Session.{Session}
use Rattle.mg_calls.specs.Frames.{Frames}
use Rattle.mg_calls.specs.FrameLaws.{frames_changes}
use Rattle.mg_calls.specs.Quiet.{IsQuietly, as_it_was, with_entry}
use Rattle.mg_transcript.specs.Growing as grown
use Rattle.mg_transcript.specs.Growing.{GrowsBy, by_one}
use Rattle.mg_transcript.specs.Sessions.{Unfinished}
use Rattle.mg_interleavings.specs.declared.answered.Answered.{Answered}
use Rattle.mg_interleavings.specs.GivingUp.{ComesOut, GivesUpWaiting, timed_out}
use Rattle.mg_interleavings.specs.Interleavings.{TimesOut, given_up, taken_back}
use Rattle.mg_courses.specs.BesideLaws.{WorksStayAt, WorksStayReady}
use Rattle.mg_courses.specs.CarryLaws.{carries_by}
use Rattle.mg_courses.specs.Running.{RunMeans}
use Rattle.mg_pending.specs.declared.pending.Pending.{Pending}
use Rattle.mg_pending.specs.declared.transactions.Transaction.{Transaction}
use Rattle.mg_pending.specs.Standing.{AreReady, StandAt}
use Rattle.mg_pending.specs.StandingLaws.{ended_at, ends_if, live_is_active, others_ready, others_stand}
use Rattle.mg_pending.specs.Statements.{has_statement}
use Rattle.mg_pending.specs.Transactions.{number_at}
use Rattle.mg_sessions.specs.AccountLaws.{account_of}
use Rattle.mg_sessions.specs.Accounts.{Accounts}
use Rattle.mg_sessions.specs.Coming.{ComesTo}
use Rattle.mg_floor.specs.Answering.{ends_by, refusal_told_by}

-- the transaction that is over is the same by both
ends_as : (t : ℕ) (on : TxNo) (done : Result (Unit {0}) Refusal)
    → given_up_in t done ≡ ends_if t (ends_by (timed_out on done))
ends_as t on (Ok x) = refl
ends_as t on (Err refusal) = at (is_given_up refusal)
  where
    at : (b : Bool) → (if b then Some t else None) ≡ ends_if t b
    at true = refl
    at false = refl

told_as : (on : TxNo) (done : Result (Unit {0}) Refusal) → refusal_in done ≡ refusal_told_by (timed_out on done)
told_as on (Ok x) = refl
told_as on (Err refusal) = refl

-- A history goes on by events of the transaction that no crash could lose, lawfully; and the transaction is active still
-- unless it ends.
record GoesOutSo (o : Opening) (h after : Entries) (t : TxNo) (over : Bool) : Type 0 where
  quiet : IsQuietly h after
  active : is_active (state_of o after t.0) ≡ not over
  grows : GrowsBy t h after
  legal : IsLegal o after

rolled_back : (t : TxNo) (s : TxState) → is_active (if t.0 == t.0 then Dead else s) ≡ false
rolled_back t s = ap (λ (b : Bool). is_active (if b then Dead else s)) (eq-eqb t.0 t.0 refl)

active_fine : (s : TxState) → s ≡ Active → answers.Fine ≡ if_active s answers.Fine
active_fine s is = ap (λ (x : TxState). if_active x answers.Fine) (sym is)

refused_so : (o : Opening) (h : Entries) (t : TxNo) (refusal : Refusal) → state_of o h t.0 ≡ Active
    → IsLawful o h (entry (events.UndoMark t) (answers.No refusal)) → IsLegal o h
    → GoesOutSo o h (after_refusal o h t (events.UndoMark t) refusal) t (is_given_up refusal)
refused_so o h t refusal active lawful before = at (is_given_up refusal)
  where
    at : (b : Bool) → GoesOutSo o h (cond (b && is_active (state_of o h t.0))
        (entry (events.Rollback t) answers.Fine ∷ entry (events.UndoMark t) (answers.No refusal) ∷ h)
        (entry (events.UndoMark t) (answers.No refusal) ∷ h)) t b
    at true = subst (λ (s : TxState). GoesOutSo o h (cond (true && is_active s)
        (entry (events.Rollback t) answers.Fine ∷ entry (events.UndoMark t) (answers.No refusal) ∷ h)
        (entry (events.UndoMark t) (answers.No refusal) ∷ h)) t true) (sym active)
        (record {
          quiet = with_entry (entry (events.Rollback t) answers.Fine) refl
              (with_entry (entry (events.UndoMark t) (answers.No refusal)) refl as_it_was);
          active = rolled_back t (state_of o h t.0);
          grows = by_one (entry (events.Rollback t) answers.Fine) refl
              (by_one (entry (events.UndoMark t) (answers.No refusal)) refl grown.as_it_was);
          legal = (inl (active_fine (state_of o h t.0) active), (lawful, before));
        })
    at false = record {
      quiet = with_entry (entry (events.UndoMark t) (answers.No refusal)) refl as_it_was;
      active = ap is_active active;
      grows = by_one (entry (events.UndoMark t) (answers.No refusal)) refl grown.as_it_was;
      legal = (lawful, before);
    }

-- the keeper stands for the history in which the statement has timed out
abbrev comes_out : {R P : Type 0} (m : Means R P) (old new : R) (t on : TxNo) (done : Result (Unit {0}) Refusal) (o : Opening)
    (h : Entries) → Undoes m old new t done → m.stands old o h → ComesOut m new o h t on (timed_out on done)
comes_out m old new t on (Ok x) o h undoes stands = record {
  after = entry (events.UndoMark t) answers.Fine ∷ h;
  out = taken_back (undoes o h stands).0;
  stands = (undoes o h stands).1;
}
comes_out m old new t on (Err refusal) o h gives stands = record {
  after = after_refusal o h t (events.UndoMark t) refusal;
  out = given_up refusal (gives o h stands).0;
  stands = (gives o h stands).1;
}

out_so : {R P : Type 0} (m : Means R P) (old new : R) (o : Opening) (h : Entries) (t on : TxNo)
    (done : Result (Unit {0}) Refusal) (undoes : Undoes m old new t done) (stands : m.stands old o h)
    → state_of o h t.0 ≡ Active → IsLegal o h
    → GoesOutSo o h (comes_out m old new t on done o h undoes stands).after t (ends_by (timed_out on done))
out_so m old new o h t on (Ok x) undoes stands active before = record {
  quiet = with_entry (entry (events.UndoMark t) answers.Fine) refl as_it_was;
  active = ap is_active active;
  grows = by_one (entry (events.UndoMark t) answers.Fine) refl grown.as_it_was;
  legal = ((undoes o h stands).0, before);
}
out_so m old new o h t on (Err refusal) gives stands active before =
    refused_so o h t refusal active (gives o h stands).0 before

module _ {R P Run : Type 0} (m : Means R P) (runs : RunMeans R Run) (one : SessionsAreOne m) (lasts : HoldsOn m)
    (still : WorksStayAt m runs) (ready_still : WorksStayReady m runs) (old new : R) (session : Session) (t on : TxNo)
    (answer : Answered) (all : List (Option Transaction)) (ps : List (Pending Run)) (ready : AreReady m runs old all ps)
    (its : number_at all session.0 ≡ Some t) (idle : has_statement session.0 ps ≡ false)
    (gives : GivesUpWaiting m old new t on answer) where
  frames : Frames m old new t.0 (refusal_in gives.done)
  frames = frames_changes m old new t.0 (refusal_in gives.done) gives.leaves gives.told

  abbrev over : Bool
  over = ends_by (timed_out on gives.done)

  over_is : over ≡ ends_by answer
  over_is = ap ends_by (sym gives.is)

  pub given_ready : AreReady m runs new (ended_at session.0 (ends_by answer) all) ps
  given_ready = subst (λ (b : Bool). AreReady m runs new (ended_at session.0 b all) ps) over_is
      (others_ready m runs old new session.0 t over all ps one ready its (refusal_in gives.done) frames ready_still
      (subst (λ (ends : Option ℕ). SessionsStay m old new None ends) (ends_as t.0 on gives.done) gives.sessions) idle)

  pub given_account : Accounts m old new (refusal_told_by answer)
  given_account = subst (λ (r : Option Refusal). Accounts m old new r)
      (told_as on gives.done ∙ ap refusal_told_by (sym gives.is))
      (account_of m old new t.0 (refusal_in gives.done) frames)

  pub given_comes : (o : Opening) (h : Entries) (us : List Unfinished) → StandAt m runs old o h all ps us
      → ComesTo m runs old new o h (ended_at session.0 (ends_by answer) all) ps
      (λ after then_. TimesOut o h t on after answer × (then_ ≡ us))
  given_comes o h us stand =
      let active = live_is_active m runs old o h all ps us session.0 t stand its in
      let out = comes_out m old new t on gives.done o h gives.undoes stand.stands in
      let so = out_so m old new o h t on gives.done gives.undoes stand.stands active stand.legal in
      record {
        after = out.after;
        then_ = us;
        does = (subst (λ (x : Answered). TimesOut o h t on out.after x) (sym gives.is) out.out, refl);
        stand = subst (λ (b : Bool). StandAt m runs new o out.after (ended_at session.0 b all) ps us) over_is
            (others_stand m runs old new session.0 t over all ps one ready its o h out.after us stand so.grows
            so.active (refusal_in gives.done) frames still out.stands so.legal idle);
        carries = carries_by m lasts old new o h out.after so.quiet gives.leaves.keeps.tells gives.leaves.keeps.time
            (gives.leaves.keeps.holds o h) (gives.undamaged o h stand.stands) (gives.crash o h stand.stands);
      }
