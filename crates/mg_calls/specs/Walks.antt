-- A walk over the rows of a table that a transaction sees.
use Rattle.std.specs.Prelude.{◌≡◌, ℕ, ◌<◌, List, [], ◌∷◌, ◌++◌, map, Option, Some, None, Result, Ok, Err, IsPermutation}
use Rattle.mg_base.specs.declared.transaction.TxState.TheVariants.{Active}
use Rattle.mg_model.specs.declared.opening.Opening.{Opening}
use Rattle.mg_model.specs.declared.refusal.Refusal.{Refusal}
use Rattle.mg_value.specs.declared.shape.Shape.{Shape}
use Rattle.mg_value.specs.declared.value.Value.{Value}
use Rattle.mg_model.specs.Changes.{Cells, KeyedRows, rows_of}
use Rattle.mg_model.specs.History.{Entries}
use Rattle.mg_model.specs.Machine.{state_of, view}
use Rattle.mg_records.specs.Adding.{IsRefused}
use Rattle.mg_records.specs.Meaning.{Means}
use Rattle.mg_records.specs.Reading.{IsPlace, StandsUnderKey}
use Rattle.mg_calls.specs.declared.walking.Walk.{Walk}
use Rattle.mg_calls.specs.declared.walking.Visit.{Visit}
use Rattle.mg_calls.specs.declared.walking.Visit.TheVariants as visits

-- the rows of a table that a transaction sees, in key order
abbrev pub rows_seen : Opening → Entries → ℕ → List ℕ → List Cells
rows_seen o h t name = map (λ r. r.1) (rows_of (view o h t) name)

-- the transaction sees the table, and the place was given
pub record IsOnItsWay {R P : Type 0} (m : Means R P) (r : R) (t : ℕ) (walk : Walk P) : Type 0 where
  pub table : m.table r t walk.table.name ≡ Some walk.table
  pub place : IsPlace m r walk.table walk.place

-- A walk has come to these rows so far, each with its key; with those to come they are the rows that
-- the transaction sees, in some order.
pub record HasCome {R P : Type 0} (m : Means R P) (r : R) (o : Opening) (h : Entries) (t : ℕ)
    (walk : Walk P) (visited : KeyedRows) : Type 0 where
  pub rest : KeyedRows
  pub to_come : m.to_come r t walk.table walk.place rest
  pub whole : IsPermutation (visited ++ rest) (rows_of (view o h t) walk.table.name)

-- the rows of a record: one, or none
abbrev pub rows_in : Option (Value × Cells) → KeyedRows
rows_in None = []
rows_in (Some row) = row ∷ []

-- A walk goes on: it comes to a record and its row, if the transaction sees one there; or it is at
-- its end, and has come to all rows; or it is refused.
abbrev pub GoesOn : {R P : Type 0} → Means R P → R → Opening → Entries → ℕ → Walk P → KeyedRows
    → Result Visit Refusal → Type 0
GoesOn m new o h t walk visited (Ok (visits.Record row)) = HasCome m new o h t walk (visited ++ rows_in row)
GoesOn m new o h t walk visited (Ok visits.End) =
    (state_of o h t ≡ Active) × IsPermutation visited (rows_of (view o h t) walk.table.name)
GoesOn m new o h t walk visited (Err refusal) = IsRefused o h t refusal

-- the row that a walk comes to may stand in its table, under its key
abbrev pub ComesToFitting : Shape → Result Visit Refusal → Type 0
ComesToFitting shape (Ok (visits.Record row)) = StandsUnderKey shape row
ComesToFitting shape (Ok visits.End) = Unit {0}
ComesToFitting shape (Err refusal) = Unit {0}

-- a walk that comes to a record is nearer to its end, behind another place; else it stays
abbrev pub Progresses : {R P : Type 0} → Means R P → R → R → ℕ → Walk P → Walk P
    → Result Visit Refusal → Type 0
Progresses m old new t before after (Ok (visits.Record row)) =
    m.still new t after.table after.place < m.still old t before.table before.place
Progresses m old new t before after (Ok visits.End) = after.place ≡ before.place
Progresses m old new t before after (Err refusal) = after.place ≡ before.place
