-- When what is remembered agrees with a history, and with the keeper of records that stands for it.
use Rattle.std.specs.Prelude.{◌≡◌, ◌<◌, ℕ, List, [], ◌∷◌, length, Option, Some, None}
use Rattle.mg_base.specs.declared.numbers.TxNo.{TxNo}
use Rattle.mg_model.specs.declared.opening.Opening.{Opening}
use Rattle.mg_model.specs.Answers.{is_active}
use Rattle.mg_model.specs.History.{Entries}
use Rattle.mg_model.specs.Legal.{IsLegal}
use Rattle.mg_model.specs.Machine.{state_of, mode_of}
use Rattle.mg_records.specs.Meaning.{Means}
use Rattle.mg_script.specs.declared.line.TheConstants.{SESSIONS}
use Rattle.mg_transcript.specs.Sessions.{Unfinished, transaction_of}
use Rattle.mg_courses.specs.Running.{RunMeans}
use Rattle.mg_courses.specs.Working.{IsWorkAt, IsWorkReady}
use Rattle.mg_pending.specs.declared.pending.Pending.{Pending}
use Rattle.mg_pending.specs.declared.transactions.Transaction.{Transaction}
use Rattle.mg_pending.specs.declared.transactions.TheConstants.{PLACES}
use Rattle.mg_pending.specs.Transactions.{transaction_at, number_at, has_number}
use Rattle.mg_pending.specs.Statements.{AreApart}

-- ---- with a history

-- after a history this statement is the unfinished one: the same is left of it
pub record IsOf {R Run : Type 0} (runs : RunMeans R Run) (r : R) (o : Opening) (h : Entries)
    (p : Pending Run) (u : Unfinished) : Type 0 where
  pub session : p.session ≡ u.session
  pub transaction : p.transaction ≡ u.transaction
  pub waits_on : p.waits_on ≡ u.waits_on
  pub at_course : IsWorkAt runs r o h p.transaction p.work u.course

-- one after another these are the unfinished ones
abbrev pub Agree : {R Run : Type 0} → RunMeans R Run → R → Opening → Entries → List (Pending Run)
    → List Unfinished → Type 0
Agree runs r o h [] [] = Unit {0}
Agree runs r o h [] (u ∷ us) = ⊥
Agree runs r o h (p ∷ ps) [] = ⊥
Agree runs r o h (p ∷ ps) (u ∷ us) = IsOf runs r o h p u × Agree runs r o h ps us

-- After a history that a keeper stands for, these are the live transactions of sessions, no other
-- one is active, and these statements are the unfinished ones.
pub record StandAt {R P Run : Type 0} (m : Means R P) (runs : RunMeans R Run) (r : R) (o : Opening)
    (h : Entries) (all : List (Option Transaction)) (ps : List (Pending Run)) (us : List Unfinished)
    : Type 0 where
  pub stands : m.stands r o h
  pub legal : IsLegal o h
  pub its : (session : ℕ) → transaction_of o h session ≡ number_at all session
  pub modes : (session : ℕ) (x : Transaction) → transaction_at all session ≡ Some x
      → (mode_of h x.number.0).read_only ≡ x.read_only
  pub active : (t : ℕ) → is_active (state_of o h t) ≡ has_number all t
  pub agree : Agree runs r o h ps us

-- ---- with a keeper

-- a statement can go on: it is of the live transaction of its session, and its next step may be made
pub record CanGoOn {R P Run : Type 0} (m : Means R P) (runs : RunMeans R Run) (r : R)
    (all : List (Option Transaction)) (p : Pending Run) : Type 0 where
  pub lettered : p.session.0 < SESSIONS
  pub its : number_at all p.session.0 ≡ Some p.transaction
  pub ready : IsWorkReady m runs r p.transaction p.work

abbrev pub AllCanGoOn : {R P Run : Type 0} → Means R P → RunMeans R Run → R → List (Option Transaction)
    → List (Pending Run) → Type 0
AllCanGoOn m runs r all [] = Unit {0}
AllCanGoOn m runs r all (p ∷ ps) = CanGoOn m runs r all p × AllCanGoOn m runs r all ps

-- A keeper and what is remembered are ready for a line: the keeper knows each session's transaction,
-- and each statement can go on. Each session has one statement at most.
pub record AreReady {R P Run : Type 0} (m : Means R P) (runs : RunMeans R Run) (r : R)
    (all : List (Option Transaction)) (ps : List (Pending Run)) : Type 0 where
  pub places : length all ≡ PLACES
  pub free : (session : ℕ) → number_at all session ≡ None → m.is_free r session
  pub works : (session : ℕ) (t : TxNo) → number_at all session ≡ Some t → m.works r t.0 session
  pub ready : AllCanGoOn m runs r all ps
  pub apart : AreApart ps
