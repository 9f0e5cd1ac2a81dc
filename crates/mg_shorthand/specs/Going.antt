-- What calls for an active transaction come to.
use Rattle.std.specs.Prelude.{◌≡◌, ℕ, Bool, not, Option, Some, None, Result, Ok, Err, true, false, if◌then◌else◌}
use Rattle.mg_base.specs.declared.numbers.TxNo.{TxNo}
use Rattle.mg_base.specs.declared.transaction.TxState.TheVariants.{Active}
use Rattle.mg_model.specs.declared.opening.Opening.{Opening}
use Rattle.mg_model.specs.declared.refusal.Refusal.{Refusal}
use Rattle.mg_model.specs.Answers.{is_active}
use Rattle.mg_model.specs.History.{Entries}
use Rattle.mg_model.specs.Machine.{state_of}
use Rattle.mg_records.specs.Meaning.{Means}
use Rattle.mg_records.specs.Sessions.{SessionsStay}
use Rattle.mg_calls.specs.Frames.{Frames}
use Rattle.mg_transcript.specs.Growing.{GrowsBy}
use Rattle.mg_transcript.specs.Steps.{is_outside}
use Rattle.mg_courses.specs.Carrying.{Carries}

-- From a history on something comes, by a relation to the longer history, by events of the transaction alone. The
-- keeper stands for that, no crash loses what was durable, and the transaction is active still, or over.
pub record Went {R P : Type 0} (m : Means R P) (old new : R) (o : Opening) (h : Entries) (t : TxNo)
    (over : Bool) (By : Entries → Type 0) : Type 0 where
  pub after : Entries
  pub does : By after
  pub stands : m.stands new o after
  pub own : GrowsBy t h after
  pub active : is_active (state_of o after t.0) ≡ not over
  pub carries : Carries m old new o h after

-- so it is after a history for which the keeper stood, and in which the transaction is active
abbrev pub GoesAt : {R P : Type 0} → Means R P → R → R → Opening → Entries → TxNo → Bool
    → (Entries → Type 0) → Type 0
GoesAt m old new o h t over By = m.stands old o h → state_of o h t.0 ≡ Active
    → Went m old new o h t over By

-- after each
abbrev pub Goes : {R P : Type 0} → Means R P → R → R → TxNo → Bool
    → (Opening → Entries → Entries → Type 0) → Type 0
Goes m old new t over By = (o : Opening) (h : Entries) → GoesAt m old new o h t over (By o h)

-- nothing comes of a history but a reading, and what is refused is refused from outside
pub record ReadsOn {R P : Type 0} (m : Means R P) (old new : R) (o : Opening) (h : Entries) : Type 0
  where
    pub stands : m.stands new o h
    pub carries : Carries m old new o h h

abbrev pub IsFromOutside : {T : Type 0} → Result T Refusal → Type 0
IsFromOutside (Ok x) = Unit {0}
IsFromOutside (Err refusal) = is_outside refusal ≡ true

-- the transaction that is over
abbrev pub over_if : ℕ → Bool → Option ℕ
over_if t over = if over then Some t else None

-- What is left of others and of the keeper as a whole, whatever the history: whose transaction is over is free.
pub record Spares {R P : Type 0} (m : Means R P) (old new : R) (t : TxNo) (refusal : Option Refusal)
    (over : Bool) : Type 0 where
  pub frames : Frames m old new t.0 refusal
  pub sessions : SessionsStay m old new None (over_if t.0 over)

-- the same behind calls that were made for the transaction before, and were refused so, if they were
abbrev pub SparesOn : {R P : Type 0} → Means R P → R → R → TxNo → Option Refusal → Option Refusal → Bool
    → Type 0
SparesOn {R = R} m old new t first refusal over = (before : R) → Spares m before old t first false
    → Spares m before new t refusal over
