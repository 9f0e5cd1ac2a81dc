-- The lines of a new table's rows.
use Rattle.std.specs.Prelude.{◌≡◌, true, ℕ, List, [], ◌∷◌, Result, Ok, Err}
use Rattle.mg_base.specs.declared.numbers.TxNo.{TxNo}
use Rattle.mg_value.specs.declared.shape.Shape.{Shape}
use Rattle.mg_model.specs.declared.answer.Answer.TheVariants.{Fine}
use Rattle.mg_model.specs.declared.event.Event.TheVariants as events
use Rattle.mg_model.specs.declared.refusal.Refusal.{Refusal}
use Rattle.mg_model.specs.Catalog.{catalog_name}
use Rattle.mg_model.specs.Changes.{Cells}
use Rattle.mg_model.specs.History.{Entries, entry}
use Rattle.mg_records.specs.Writing.{rows_made}
use Rattle.mg_trace.specs.declared.trace.Trace.{Trace}
use Rattle.mg_trace.specs.Putting.{Has, Stops}

-- a history with new rows, one after another
abbrev pub with_rows : TxNo → List ℕ → List Cells → Entries → Entries
with_rows t table [] h = h
with_rows t table (row ∷ rows) h = with_rows t table rows (entry (events.Insert t table row) Fine ∷ h)

-- a trace that has a history comes to have it with the new rows
pub record NotesRows (old new : Trace) (t : TxNo) (table : List ℕ) (made : List Cells) : Type 0 where
  pub whole : new.whole ≡ true → old.whole ≡ true
  pub rows : (h : Entries) → Has old h → Has new (with_rows t table made h)

-- the rows of a new table are noted; at one that was refused the trace stops
abbrev pub NotesMade : Trace → Trace → TxNo → List ℕ → Shape → Result (Unit {0}) Refusal → Type 0
NotesMade old new t name shape (Ok x) = NotesRows old new t catalog_name (rows_made name shape)
NotesMade old new t name shape (Err refusal) = Stops old new
