-- What a keeper that records knows of its history, and what it notes of the events that begin and end transactions.
use Rattle.std.specs.Prelude.{◌≡◌, true, ℕ, List, [], ◌∷◌, ◌++◌, Result, Ok, Err}
use Rattle.mg_base.specs.declared.numbers.TxNo.{TxNo}
use Rattle.mg_model.specs.declared.event.Event.{Event}
use Rattle.mg_model.specs.declared.opening.Opening.{Opening}
use Rattle.mg_model.specs.declared.refusal.Refusal.{Refusal}
use Rattle.mg_model.specs.History.{Entries}
use Rattle.mg_records.specs.Adding.{number_or}
use Rattle.mg_trace.specs.declared.trace.Trace.{Trace}
use Rattle.mg_trace.specs.Putting.{AddsLine, Has}
use Rattle.mg_recording.specs.Active.{AreActive, without}

-- A trace has a history, and as long as it is whole, these are the numbers of the active transactions.
pub record Knows (trace : Trace) (active : List ℕ) (o : Opening) (h : Entries) : Type 0 where
  pub has : Has trace h
  pub are : trace.whole ≡ true → AreActive active o h

-- the numbers with one that was drawn
abbrev pub with_drawn : List ℕ → Result TxNo Refusal → List ℕ
with_drawn active (Ok t) = active ++ t.0 ∷ []
with_drawn active (Err refusal) = active

-- the line of a beginning is added, and its number; where memory for either was short, the line is not
pub record NotesBegun (old new : Trace) (before after : List ℕ) (event : Event) (drawn : Result TxNo Refusal) : Type 0
  where
    pub line : AddsLine old new event (number_or drawn)
    pub number : new.whole ≡ true → after ≡ with_drawn before drawn

-- the numbers without one whose transaction has ended
abbrev pub after_end : List ℕ → TxNo → Result (Unit {0}) Refusal → List ℕ
after_end active t (Ok x) = without t.0 active
after_end active t (Err refusal) = active
