-- Notes of new rows, one after another.
use Rattle.std.proofs.Common.{◌≡◌, ℕ, ◌+◌, ◌<◌, ◌≤◌, zero, suc, List, [], ◌∷◌, Result, Ok, Err, drop, get_or, length, refl, subst, sym, ap, ◌∙◌, arith}
use Rattle.std.proofs.lemmas.Bool.{false≢true}
use Rattle.std.proofs.lemmas.List.{at_drop_more}
use Rattle.mg_base.specs.declared.numbers.TxNo.{TxNo}
use Rattle.mg_value.specs.declared.shape.Shape.{Shape}
use Rattle.mg_model.specs.declared.answer.Answer.TheVariants.{Fine}
use Rattle.mg_model.specs.declared.event.Event.TheVariants as events
use Rattle.mg_model.specs.declared.refusal.Refusal.{Refusal}
use Rattle.mg_model.specs.Catalog.{catalog_name}
use Rattle.mg_model.specs.Changes.{Cells}
use Rattle.mg_model.specs.History.{entry}
use Rattle.mg_records.specs.Writing.{rows_made}
use Rattle.mg_trace.specs.declared.trace.Trace.{Trace}
use Rattle.mg_trace.specs.Putting.{AddsLine, Stops}
use Rattle.mg_trace.specs.PuttingLaws.{has_one}
use Rattle.mg_recording.specs.Making.{NotesMade, NotesRows}
use Rattle.mg_recording.specs.KnowingLaws.{stopped_rows}

-- the line of the first row is added, and the rest is noted
pub notes_first : (old mid new : Trace) (t : TxNo) (table : List ℕ) (row : Cells) (rows : List Cells)
    → AddsLine old mid (events.Insert t table row) Fine → NotesRows mid new t table rows
    → NotesRows old new t table (row ∷ rows)
notes_first old mid new t table row rows line rest = record {
  whole = λ w. (line.whole (rest.whole w)).0;
  rows = λ h has.
      rest.rows (entry (events.Insert t table row) Fine ∷ h) (has_one old mid h (events.Insert t table row) Fine line has);
}

-- the same at a place of a list
pub notes_next : (old mid new : Trace) (t : TxNo) (table : List ℕ) (rows : List Cells) (i : ℕ) (row : Cells)
    → i < length rows → row ≡ get_or rows i row → AddsLine old mid (events.Insert t table row) Fine
    → NotesRows mid new t table (drop (i + 1) rows) → NotesRows old new t table (drop i rows)
notes_next old mid new t table rows i row below is line rest =
    let split : drop i rows ≡ row ∷ drop (i + 1) rows =
    at_drop_more (λ (xs : List Cells). xs) rows i row below ∙ ap (λ (x : Cells). x ∷ drop (i + 1) rows) (sym is) in
    subst (λ (xs : List Cells). NotesRows old new t table xs) (sym split)
    (notes_first old mid new t table row (drop (i + 1) rows) line rest)

drop_past : (xs : List Cells) (i : ℕ) → length xs ≤ i → drop i xs ≡ []
drop_past [] zero past = refl
drop_past [] (suc i) past = refl
drop_past (x ∷ xs) zero past = absurd (omega arith)
drop_past (x ∷ xs) (suc i) past = drop_past xs i (omega arith)

-- no row is noted
pub notes_none : (new : Trace) (t : TxNo) (table : List ℕ) → NotesRows new new t table []
notes_none new t table = record { whole = λ w. w; rows = λ h has. has }

-- behind the last row nothing is left to note
pub notes_last : (new : Trace) (t : TxNo) (table : List ℕ) (rows : List Cells) (i : ℕ) → length rows ≤ i
    → NotesRows new new t table (drop i rows)
notes_last new t table rows i past =
    subst (λ (xs : List Cells). NotesRows new new t table xs) (sym (drop_past rows i past)) (notes_none new t table)

-- a trace that stops has no line of the new rows
pub stops_rows : (old new : Trace) (t : TxNo) (table : List ℕ) (rows : List Cells) → Stops old new
    → NotesRows old new t table rows
stops_rows old new t table rows stops = record {
  whole = λ w. absurd (false≢true (sym stops.whole ∙ w));
  rows = λ h has. stopped_rows old new t table rows h stops has;
}

-- whatever a call came to that made a table, a trace that stops has noted it
pub stops_made : (old new : Trace) (t : TxNo) (name : List ℕ) (shape : Shape) (made : Result (Unit {0}) Refusal)
    → Stops old new → NotesMade old new t name shape made
stops_made old new t name shape (Ok x) stops = stops_rows old new t catalog_name (rows_made name shape) stops
stops_made old new t name shape (Err refusal) stops = stops
