-- What is noted where a transaction is taken back.
use Rattle.std.specs.Prelude.{◌≡◌, ◌&&◌, Bool, true, false, cond, List, ℕ, Result, Ok, Err}
use Rattle.mg_base.specs.declared.numbers.TxNo.{TxNo}
use Rattle.mg_model.specs.declared.answer.Answer.TheVariants.{Fine, No}
use Rattle.mg_model.specs.declared.event.Event.{Event}
use Rattle.mg_model.specs.declared.event.Event.TheVariants as events
use Rattle.mg_model.specs.declared.refusal.Refusal.{Refusal}
use Rattle.mg_records.specs.TakingBack.{is_given_up}
use Rattle.mg_trace.specs.declared.trace.Trace.{Trace}
use Rattle.mg_trace.specs.Putting.{AddsLine}
use Rattle.mg_recording.specs.Active.{is_among, without}

-- the transaction was active, and is rolled back after this refusal
abbrev pub must_end : List ℕ → TxNo → Refusal → Bool
must_end active t refusal = is_given_up refusal && is_among t.0 active

-- its rolling back has its line
abbrev pub NotesEnd : Trace → Trace → List ℕ → List ℕ → TxNo → Bool → Type 0
NotesEnd old new before after t must =
    cond must (AddsLine old new (events.Rollback t) Fine × (after ≡ without t.0 before)) ((new ≡ old) × (after ≡ before))

-- one that was refused has its line, and behind it that of the rolling back, if there was one
pub record NotesRefused (old new : Trace) (before after : List ℕ) (t : TxNo) (event : Event) (refusal : Refusal)
    : Type 0 where
  pub mid : Trace
  pub line : AddsLine old mid event (No refusal)
  pub end : NotesEnd mid new before after t (must_end before t refusal)

-- one to the last mark
abbrev pub NotesUndone : Trace → Trace → List ℕ → List ℕ → TxNo → Result (Unit {0}) Refusal → Type 0
NotesUndone old new before after t (Ok x) = AddsLine old new (events.UndoMark t) Fine × (after ≡ before)
NotesUndone old new before after t (Err refusal) = NotesRefused old new before after t (events.UndoMark t) refusal

-- one to a savepoint of a name; without one nothing is noted
abbrev pub NotesGoneBack : Trace → Trace → List ℕ → List ℕ → TxNo → List ℕ → Result Bool Refusal → Type 0
NotesGoneBack old new before after t name (Ok true) =
    AddsLine old new (events.BackTo t name) Fine × (after ≡ before)
NotesGoneBack old new before after t name (Ok false) = (new ≡ old) × (after ≡ before)
NotesGoneBack old new before after t name (Err refusal) =
    NotesRefused old new before after t (events.BackTo t name) refusal
