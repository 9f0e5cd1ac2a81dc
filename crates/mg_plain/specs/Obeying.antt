-- What the plain machine does with an event for which it may want memory.
use Rattle.std.specs.Prelude.{◌≡◌, ℕ, Bool, true, false, ◌∷◌, Option, Some, None, Result, Ok, Err}
use Rattle.mg_base.specs.declared.numbers.TxNo.{TxNo}
use Rattle.mg_model.specs.declared.answer.Answer.{Answer}
use Rattle.mg_model.specs.declared.answer.Answer.TheVariants.{Fine, Tx, Rows, No}
use Rattle.mg_model.specs.declared.change.Point.{Point}
use Rattle.mg_model.specs.declared.change.Point.TheVariants.{LastMark, SavepointNamed}
use Rattle.mg_model.specs.declared.event.Event.{Event}
use Rattle.mg_model.specs.declared.event.Event.TheVariants.{Begin, Find, Mark, Savepoint, UndoMark, BackTo}
use Rattle.mg_model.specs.declared.opening.Opening.{Opening}
use Rattle.mg_model.specs.declared.refusal.Refusal.{Refusal}
use Rattle.mg_model.specs.declared.refusal.Refusal.TheVariants.{NotActive, DatabaseFull, DiskRead, DiskWrite, Offline, Damaged, Memory}
use Rattle.mg_base.specs.declared.transaction.TxState.{TxState}
use Rattle.mg_base.specs.declared.transaction.TxState.TheVariants.{Active}
use Rattle.mg_model.specs.Answers.{answer_by, is_active}
use Rattle.mg_model.specs.History.{Entries, entry, transaction_of}
use Rattle.mg_model.specs.Legal.{IsLawful}
use Rattle.mg_model.specs.Machine.{is_of}
use Rattle.mg_records.specs.Keeping.{refusal_in}
use Rattle.mg_records.specs.Adding.{fine_or}
use Rattle.mg_plain.specs.Keeping.{Keeping, StandsFor, told_in, kept_after}

-- the answer that a result is
abbrev pub told_by : Result Answer Refusal → Answer
told_by (Ok answer) = answer
told_by (Err refusal) = No refusal

-- an answer that is Fine or a refusal
abbrev pub is_short : Answer → Bool
is_short Fine = true
is_short (Tx t) = false
is_short (Rows rows) = false
is_short (No refusal) = true

-- the answer is the machine's, or memory is short
abbrev pub IsAnswer : Keeping → Event → Answer → Type 0
IsAnswer k event (No Memory) = Unit {0}
IsAnswer k event answer = answer ≡ answer_by (told_in k) event

-- an event was answered, with what is then kept, and stands so in each history that what was kept
-- stands for
pub record Obeys (old new : Keeping) (event : Event) (answer : Answer) : Type 0 where
  pub is : IsAnswer old event answer
  pub kept_is : new ≡ kept_after event answer old
  pub stands : (o : Opening) (h : Entries) → StandsFor o h old
      → IsLawful o h (entry event answer) × StandsFor o (entry event answer ∷ h) new

-- a refusal that the machine has, or want of memory
abbrev pub is_inner : Option Refusal → Bool
is_inner None = true
is_inner (Some (DatabaseFull limit)) = false
is_inner (Some (DiskRead faults)) = false
is_inner (Some (DiskWrite faults)) = false
is_inner (Some (Offline faults)) = false
is_inner (Some (Damaged page field found wanted)) = false
is_inner (Some refusal) = true

-- an event whose answer is Fine or a refusal
abbrev pub is_short_event : Event → Bool
is_short_event (Begin session mode) = false
is_short_event (Find t table test) = false
is_short_event event = true

-- the transaction that may see other rows after an event; a mark or a savepoint changes none
abbrev pub seer_of : Event → Option ℕ
seer_of (Mark t) = None
seer_of (Savepoint t name) = None
seer_of event = transaction_of event

-- the event that takes a transaction back to a point
abbrev pub event_back : TxNo → Point → Event
event_back t LastMark = UndoMark t
event_back t (SavepointNamed name) = BackTo t name

-- what a transaction sees stays, but for one, if one is named
abbrev pub ViewsStay : Keeping → Keeping → Option ℕ → Type 0
ViewsStay old new who =
    (u : ℕ) → is_of u who ≡ false → (told_in new).view u ≡ (told_in old).view u

-- an event of a transaction was answered by Fine or a refusal
pub record IsDone (old new : Keeping) (event : Event) (result : Result (Unit {0}) Refusal) (who : Option ℕ)
    : Type 0 where
  pub obeys : Obeys old new event (fine_or result)
  pub inner : is_inner (refusal_in result) ≡ true
  pub views : ViewsStay old new who

-- a transaction in this state is active, or else it is refused so
abbrev pub ExpectsActive : TxState → Result (Unit {0}) Refusal → Type 0
ExpectsActive state (Ok x) = state ≡ Active
ExpectsActive state (Err refusal) = (refusal ≡ NotActive state) × (is_active state ≡ false)

-- a short answer as a result
abbrev pub as_done : Result Answer Refusal → Result (Unit {0}) Refusal
as_done (Ok Fine) = Ok tt
as_done (Ok (Tx t)) = Ok tt
as_done (Ok (Rows rows)) = Ok tt
as_done (Ok (No refusal)) = Err refusal
as_done (Err refusal) = Err refusal

-- the answer to a beginning as a result
abbrev pub as_number : Result Answer Refusal → Result TxNo Refusal
as_number (Ok Fine) = Err Memory
as_number (Ok (Tx t)) = Ok t
as_number (Ok (Rows rows)) = Err Memory
as_number (Ok (No refusal)) = Err refusal
as_number (Err refusal) = Err refusal
