-- A session begins a transaction.
use Rattle.std.proofs.Common.{◌≡◌, ◌<◌, ℕ, List, ◌∷◌, Option, None, Some, refl}
use Rattle.std.specs.Prelude.{set}
use Rattle.mg_base.specs.declared.numbers.TxNo.{TxNo}
use Rattle.mg_model.specs.declared.answer.Answer.TheVariants as answers
use Rattle.mg_model.specs.declared.event.Event.TheVariants as events
use Rattle.mg_model.specs.declared.event.Mode.{Mode}
use Rattle.mg_model.specs.declared.opening.Opening.{Opening}
use Rattle.mg_model.specs.declared.refusal.Refusal.{Refusal}
use Rattle.mg_model.specs.History.{Entries, entry}
use Rattle.mg_records.specs.Adding.{Adds}
use Rattle.mg_records.specs.Crashing.{HoldsOn, LeavesQuietly}
use Rattle.mg_records.specs.Keeping.{FaultsAreTold, Leaves, MeetsNoDamage}
use Rattle.mg_records.specs.Meaning.{Means}
use Rattle.mg_records.specs.Sessions.{SessionsAreOne, SessionsStay}
use Rattle.mg_calls.specs.Frames.{Frames}
use Rattle.mg_calls.specs.FrameLaws.{frames_changes, frames_leaves}
use Rattle.mg_transcript.specs.Sessions.{Unfinished}
use Rattle.mg_courses.specs.BesideLaws.{WorksStayReady, WorksStayAt}
use Rattle.mg_courses.specs.CarryLaws.{carries_event}
use Rattle.mg_courses.specs.Running.{RunMeans}
use Rattle.mg_pending.specs.declared.pending.Pending.{Pending}
use Rattle.mg_pending.specs.declared.transactions.Transaction.{Transaction}
use Rattle.mg_pending.specs.declared.transactions.TheConstants.{PLACES}
use Rattle.mg_pending.specs.BeginLaws.{begun_one, begun_ready, begun_stands, stays_ready, stays_stand, alone_refused}
use Rattle.mg_pending.specs.Standing.{StandAt, AreReady}
use Rattle.mg_pending.specs.Transactions.{number_at}
use Rattle.mg_sessions.specs.Accounts.{Accounts}
use Rattle.mg_sessions.specs.AccountLaws.{account_of}
use Rattle.mg_sessions.specs.Coming.{ComesTo}

module _ {R P Run : Type 0} (m : Means R P) (runs : RunMeans R Run) (one : SessionsAreOne m)
    (lasts : HoldsOn m) (old new : R) (s : ℕ) (mode : Mode) (all : List (Option Transaction))
    (ps : List (Pending Run)) (ready : AreReady m runs old all ps) (inside : s < PLACES)
    (none : number_at all s ≡ None) where
  module _ (t : TxNo) (leaves : Leaves m old new None (Some t.0) (Some t.0)) (told : FaultsAreTold m old new None)
    where
      begun_frames : Frames m old new t.0 None
      begun_frames = frames_changes m old new t.0 None leaves told

      pub begun_account : Accounts m old new None
      begun_account = account_of m old new t.0 None begun_frames

      pub begun_all_ready : WorksStayReady m runs → m.works new t.0 s → SessionsStay m old new (Some s) None
          → AreReady m runs new (set all s (Some (begun_one t mode.read_only))) ps
      begun_all_ready still works stay =
          begun_ready m runs old new s t mode all inside none one works stay begun_frames ps still ready

      pub begun_comes : WorksStayAt m runs → m.works new t.0 s → SessionsStay m old new (Some s) None
          → Adds m old new (events.Begin s mode) (answers.Tx t)
          → MeetsNoDamage m old new → LeavesQuietly m old new → (o : Opening)
          (h : Entries) (us : List Unfinished) (By : Entries → List Unfinished → Type 0)
          → StandAt m runs old o h all ps us → By (entry (events.Begin s mode) (answers.Tx t) ∷ h) us
          → ComesTo m runs old new o h (set all s (Some (begun_one t mode.read_only))) ps By
      begun_comes still works stay adds undamaged crash o h us By stand does =
          let made = adds o h stand.stands in
          record {
            after = entry (events.Begin s mode) (answers.Tx t) ∷ h;
            then_ = us;
            does = does;
            stand = begun_stands m runs old new s t mode all inside none one works stay begun_frames o h ps us ready
                stand made.0 still made.1;
            carries = carries_event m lasts old new o h (entry (events.Begin s mode) (answers.Tx t)) None refl
                stand.stands leaves.keeps undamaged crash;
          }

  module _ (refusal : Refusal) (leaves : Leaves m old new (Some refusal) None None)
      (told : FaultsAreTold m old new (Some refusal)) where
    refused_frames : (n : ℕ) → Frames m old new n (Some refusal)
    refused_frames n = frames_leaves m old new n (Some refusal) leaves told

    pub refused_account : Accounts m old new (Some refusal)
    refused_account = account_of m old new 0 (Some refusal) (refused_frames 0)

    pub refused_ready : WorksStayReady m runs → SessionsStay m old new None None
        → AreReady m runs new all ps
    refused_ready still stay = stays_ready m runs old new all (Some refusal) refused_frames ps still stay ready

    pub refused_comes : WorksStayAt m runs → Adds m old new (events.Begin s mode) (answers.No refusal)
        → MeetsNoDamage m old new → LeavesQuietly m old new → (o : Opening) (h : Entries) (us : List Unfinished)
        (By : Entries → List Unfinished → Type 0) → StandAt m runs old o h all ps us
        → By (entry (events.Begin s mode) (answers.No refusal) ∷ h) us
        → ComesTo m runs old new o h all ps By
    refused_comes still adds undamaged crash o h us By stand does =
        let made = adds o h stand.stands in
        record {
          after = entry (events.Begin s mode) (answers.No refusal) ∷ h;
          then_ = us;
          does = does;
          stand = stays_stand m runs old new all (Some refusal) refused_frames o h
              (entry (events.Begin s mode) (answers.No refusal) ∷ h) ps us still
              (alone_refused h s mode refusal) made.1 (made.0, stand.legal) stand;
          carries = carries_event m lasts old new o h (entry (events.Begin s mode) (answers.No refusal))
              (Some refusal) refl stand.stands leaves.keeps undamaged crash;
        }
