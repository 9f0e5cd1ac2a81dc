-- A statement of a session's transaction has made steps: what is remembered then.
use Rattle.std.proofs.Common.{◌≡◌, ◌<◌, ℕ, false, List, Option, None, Some, sym, ◌∙◌, subst}
use Rattle.mg_base.specs.declared.numbers.TxNo.{TxNo}
use Rattle.mg_model.specs.declared.opening.Opening.{Opening}
use Rattle.mg_model.specs.Answers.{is_active}
use Rattle.mg_model.specs.History.{Entries}
use Rattle.mg_model.specs.Legal.{IsLegal}
use Rattle.mg_model.specs.Machine.{state_of}
use Rattle.mg_records.specs.Meaning.{Means}
use Rattle.mg_records.specs.Sessions.{SessionsAreOne, SessionsStay}
use Rattle.mg_script.specs.declared.line.Session.{Session}
use Rattle.mg_script.specs.declared.line.TheConstants.{SESSIONS}
use Rattle.mg_calls.specs.Frames.{Frames}
use Rattle.mg_transcript.specs.Courses.{Comes}
use Rattle.mg_transcript.specs.Growing.{GrowsBy}
use Rattle.mg_transcript.specs.Sessions.{Unfinished, kept}
use Rattle.mg_courses.specs.declared.statements.Stepped.{Stepped}
use Rattle.mg_courses.specs.declared.work.Work.{Work}
use Rattle.mg_courses.specs.BesideLaws.{WorksStayReady, WorksStayAt}
use Rattle.mg_courses.specs.Running.{RunMeans, goes_on, over_in, refusal_told}
use Rattle.mg_courses.specs.Working.{IsWorkTold, IsWorkReadyIf}
use Rattle.mg_pending.specs.declared.pending.Pending.{Pending}
use Rattle.mg_pending.specs.declared.transactions.Transaction.{Transaction}
use Rattle.mg_pending.specs.Transactions.{number_at}
use Rattle.mg_pending.specs.Statements.{has_statement, transactions_after, pending_after}
use Rattle.mg_pending.specs.Standing.{StandAt, AreReady}
use Rattle.mg_pending.specs.StandingLaws.{others_ready, others_stand, is_over_by, ended_by, ends_by, goes_on_unless, kept_stands, kept_ready}

module _ {R P Run : Type 0} (m : Means R P) (runs : RunMeans R Run) (one : SessionsAreOne m) (old new : R)
    (session : Session) (t : TxNo) (stepped : Stepped) (all : List (Option Transaction))
    (ps : List (Pending Run)) (ready : AreReady m runs old all ps)
    (its : number_at all session.0 ≡ Some t) (idle : has_statement session.0 ps ≡ false)
    (frames : Frames m old new t.0 (refusal_told stepped)) where
  pub step_others_ready : WorksStayReady m runs → SessionsStay m old new None (over_in t.0 stepped)
      → AreReady m runs new (transactions_after session.0 stepped all) ps
  step_others_ready still stay = subst (λ (a : List (Option Transaction)). AreReady m runs new a ps)
      (sym (ended_by session.0 stepped all))
      (others_ready m runs old new session.0 t (is_over_by stepped) all ps one ready its (refusal_told stepped)
      frames still (subst (λ (ends : Option ℕ). SessionsStay m old new None ends) (ends_by t.0 stepped) stay)
      idle)

  pub step_ready : WorksStayReady m runs → SessionsStay m old new None (over_in t.0 stepped)
      → (work : Work Run) → session.0 < SESSIONS → IsWorkReadyIf m runs new t work stepped
      → AreReady m runs new (transactions_after session.0 stepped all)
      (pending_after session t work stepped ps)
  step_ready still stay work lettered can = kept_ready m runs new session t work all ps stepped
      (step_others_ready still stay) its lettered idle can

  pub step_others_stand : WorksStayAt m runs → (o : Opening) (h after : Entries) (us : List Unfinished)
      → StandAt m runs old o h all ps us → GrowsBy t h after → m.stands new o after → IsLegal o after
      → is_active (state_of o after t.0) ≡ goes_on stepped
      → StandAt m runs new o after (transactions_after session.0 stepped all) ps us
  step_others_stand still o h after us stand grows stands legal active =
      subst (λ (a : List (Option Transaction)). StandAt m runs new o after a ps us)
      (sym (ended_by session.0 stepped all))
      (others_stand m runs old new session.0 t (is_over_by stepped) all ps one ready its o h after us stand grows
      (active ∙ goes_on_unless stepped) (refusal_told stepped) frames still stands legal idle)

  pub step_stand : WorksStayAt m runs → (o : Opening) (h after : Entries) (us : List Unfinished)
      → StandAt m runs old o h all ps us → GrowsBy t h after → m.stands new o after → IsLegal o after
      → is_active (state_of o after t.0) ≡ goes_on stepped → (work : Work Run) (comes : Comes)
      → IsWorkTold runs new o after t work stepped comes
      → StandAt m runs new o after (transactions_after session.0 stepped all)
      (pending_after session t work stepped ps) (kept session t comes us)
  step_stand still o h after us stand grows stands legal active work comes told =
      kept_stands m runs new o session t work (transactions_after session.0 stepped all) ps after us stepped comes
      (step_others_stand still o h after us stand grows stands legal active) told
