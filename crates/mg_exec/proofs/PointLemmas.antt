-- SAVEPOINT and ROLLBACK TO.
use Rattle.std.proofs.Common.{◌≡◌, ℕ, ◌&&◌, Bool, true, false, List, ◌∷◌, Some, None, Result, Ok, Err, cond, refl, sym, subst}
use Rattle.std.specs.Prelude.{if◌then◌else◌}
use Rattle.mg_base.specs.declared.numbers.TxNo.{TxNo}
use Rattle.mg_model.specs.declared.answer.Answer.TheVariants.{Fine, No}
use Rattle.mg_model.specs.declared.event.Event.TheVariants.{BackTo, Rollback, Savepoint}
use Rattle.mg_model.specs.declared.opening.Opening.{Opening}
use Rattle.mg_model.specs.declared.refusal.Refusal.{Refusal}
use Rattle.mg_model.specs.Answers.{is_active}
use Rattle.mg_model.specs.History.{Entries, entry}
use Rattle.mg_model.specs.Machine.{state_of}
use Rattle.mg_records.specs.Adding.{Adds}
use Rattle.mg_records.specs.Meaning.{Means}
use Rattle.mg_records.specs.TakingBack.{GivesUp, GoesBack, after_refusal, is_given_up}
use Rattle.mg_rows.specs.declared.outcome.Outcome.TheVariants as outcomes
use Rattle.mg_rows.specs.declared.statement_fault.StatementFault.TheVariants.{Engine, NoSavepoint}
use Rattle.mg_calls.specs.Frames.{Frames}
use Rattle.mg_calls.specs.Quiet.{AreQuiet, GoesOnQuietly, as_it_was, with_entry}
use Rattle.mg_calls.specs.QuietLaws.{calm_by}
use Rattle.mg_exec.specs.declared.phase.Step.{Step}
use Rattle.mg_exec.specs.declared.phase.Step.TheVariants.{Done}
use Rattle.mg_exec.specs.declared.phase.Turn.{Turn}
use Rattle.mg_exec.specs.Phases.{Leaves, ended, refusal_of, rolled_back, rolled_back_at}
use Rattle.mg_exec.specs.Points.{Saves, Returns, given_up_or_refused}
use Rattle.mg_exec.specs.Progress.{IsAtEnd}
use Rattle.mg_rows.specs.declared.statement_fault.StatementFault.{StatementFault}

pub saved : {R P : Type 0} (m : Means R P) (old new : R) (t : TxNo) (name : List ℕ) (turn : Turn P)
    → turn ≡ ended (Ok (Done outcomes.Fine)) → Adds m old new (Savepoint t name) Fine
    → (o : Opening) (h : Entries) → m.stands old o h → Saves m new o h t name turn
saved {P = P} m old new t name turn is adds o h stands =
    let came = adds o h stands in
    subst (λ (turn : Turn P). Saves m new o h t name turn) (sym is)
    (record { lawful = came.0; stands = came.1 })

pub not_saved : {R P : Type 0} (m : Means R P) (old new : R) (t : TxNo) (name : List ℕ)
    (refusal : Refusal) (turn : Turn P) → turn ≡ ended (Err (Engine refusal))
    → Adds m old new (Savepoint t name) (No refusal)
    → (o : Opening) (h : Entries) → m.stands old o h → Saves m new o h t name turn
not_saved {P = P} m old new t name refusal turn is adds o h stands =
    let came = adds o h stands in
    subst (λ (turn : Turn P). Saves m new o h t name turn) (sym is)
    (record { lawful = came.0; stands = came.1 })

pub ended_leaves : {R P : Type 0} (m : Means R P) (old new : R) (t : ℕ)
    (answer : Result Step StatementFault) (turn : Turn P) → turn ≡ ended answer
    → Frames m old new t (refusal_of answer) → AreQuiet m old new None → Leaves m old new t turn
ended_leaves {P = P} m old new t answer turn is frames quiet =
    subst (λ (turn : Turn P). Leaves m old new t turn) (sym is)
    (record { frames = frames; ready = tt; calm = calm_by m old new None quiet })

pub went_back : {R P : Type 0} (m : Means R P) (old new : R) (t : TxNo) (name : List ℕ) (turn : Turn P)
    → turn ≡ ended (Ok (Done outcomes.Fine)) → GoesBack m old new t name (Ok true)
    → (o : Opening) (h : Entries) → m.stands old o h → Returns m new o h t name turn
went_back {P = P} m old new t name turn is goes o h stands =
    let came = goes o h stands in
    subst (λ (turn : Turn P). Returns m new o h t name turn) (sym is)
    (came.0, record { lawful = came.1; stands = came.2 })

pub went_nowhere : {R P : Type 0} (m : Means R P) (old new : R) (t : TxNo) (name : List ℕ)
    (turn : Turn P) → turn ≡ ended (Err NoSavepoint) → GoesBack m old new t name (Ok false)
    → (o : Opening) (h : Entries) → m.stands old o h → Returns m new o h t name turn
went_nowhere {P = P} m old new t name turn is goes o h stands =
    subst (λ (turn : Turn P). Returns m new o h t name turn) (sym is) (goes o h stands)

pub goes_back_quietly : {R P : Type 0} (m : Means R P) (old new : R) (t : TxNo) (name : List ℕ)
    → GoesBack m old new t name (Ok true) → GoesOnQuietly m old new
goes_back_quietly m old new t name goes o h stands = (
  entry (BackTo t name) Fine ∷ h,
  (goes o h stands).2,
  with_entry (entry (BackTo t name) Fine) refl as_it_was,
)

-- without a savepoint there is no entry
pub quiet_nowhere : {R P : Type 0} (m : Means R P) (old new : R) (t : TxNo) (name : List ℕ)
    → GoesBack m old new t name (Ok false)
    → (o : Opening) (h : Entries) → m.stands old o h → m.stands new o h
quiet_nowhere m old new t name goes o h stands = (goes o h stands).2

-- ---- the going back is refused

pub not_back : {R P : Type 0} (m : Means R P) (old new : R) (t : TxNo) (name : List ℕ)
    (refusal : Refusal) (turn : Turn P) → turn ≡ given_up_or_refused refusal
    → GivesUp m old new t (BackTo t name) refusal
    → (o : Opening) (h : Entries) → m.stands old o h → Returns m new o h t name turn
not_back {P = P} m old new t name refusal turn is gives o h stands =
    subst (λ (turn : Turn P). Returns m new o h t name turn) (sym is)
    (by (is_given_up refusal) refl (gives o h stands).1)
  where
    by : (b : Bool) → is_given_up refusal ≡ b
        → m.stands new o (after_refusal o h t (BackTo t name) refusal)
        → Returns {P = P} m new o h t name
        (if b then rolled_back refusal else ended (Err (Engine refusal)))
    by true gives_up is_ = (gives_up, (gives o h stands).0, is_)
    by false keeps is_ = (
      keeps,
      record {
        lawful = (gives o h stands).0;
        stands = subst (λ (b : Bool). m.stands new o (cond (b && is_active (state_of o h t.0))
            (entry (Rollback t) Fine ∷ entry (BackTo t name) (No refusal) ∷ h)
            (entry (BackTo t name) (No refusal) ∷ h))) keeps is_;
      },
    )

pub not_back_at_end : {P : Type 0} (refusal : Refusal) (turn : Turn P)
    → turn ≡ given_up_or_refused refusal → IsAtEnd turn
not_back_at_end {P = P} refusal turn is =
    subst (λ (turn : Turn P). IsAtEnd turn) (sym is) (by (is_given_up refusal))
  where
    by : (b : Bool) → IsAtEnd {P = P} (if b then rolled_back refusal else ended (Err (Engine refusal)))
    by true = λ more. absurd cc
    by false = λ more. absurd cc

pub not_back_leaves : {R P : Type 0} (m : Means R P) (old new : R) (t : ℕ) (refusal : Refusal)
    (turn : Turn P) → turn ≡ given_up_or_refused refusal → Frames m old new t (Some refusal)
    → AreQuiet m old new (if is_given_up refusal then Some t else None) → Leaves m old new t turn
not_back_leaves {P = P} m old new t refusal turn is frames quiet =
    subst (λ (turn : Turn P). Leaves m old new t turn) (sym is) (by (is_given_up refusal) quiet)
  where
    by : (b : Bool) → AreQuiet m old new (if b then Some t else None)
        → Leaves {P = P} m old new t (if b then rolled_back refusal else ended (Err (Engine refusal)))
    by true quiet = record { frames = frames; ready = tt; calm = calm_by m old new (Some t) quiet }
    by false quiet = record { frames = frames; ready = tt; calm = calm_by m old new None quiet }

pub not_back_quiet : {R P : Type 0} (m : Means R P) (old new : R) (t : ℕ) (refusal : Refusal)
    (turn : Turn P) → turn ≡ given_up_or_refused refusal
    → AreQuiet m old new (if is_given_up refusal then Some t else None)
    → AreQuiet m old new (rolled_back_at t turn.phase)
not_back_quiet {P = P} m old new t refusal turn is quiet =
    subst (λ (turn : Turn P). AreQuiet m old new (rolled_back_at t turn.phase)) (sym is)
    (by (is_given_up refusal) quiet)
  where
    by : (b : Bool) → AreQuiet m old new (if b then Some t else None)
        → AreQuiet m old new (rolled_back_at {P = P} t (if b then rolled_back refusal else ended (Err (Engine refusal))).phase)
    by true quiet = quiet
    by false quiet = quiet
