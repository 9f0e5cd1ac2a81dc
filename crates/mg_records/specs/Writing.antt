-- Writes of rows, and new tables.
use Rattle.std.specs.Prelude.{◌≡◌, ◌⊎◌, ℕ, ◌≤◌, ◌/◌, true, List, [], ◌∷◌, length, All, Option, Some, None, slice_get}
use Rattle.mg_base.specs.declared.numbers.TxNo.{TxNo}
use Rattle.mg_value.specs.Names.{IsName}
use Rattle.mg_value.specs.declared.shape.Kind.{Kind}
use Rattle.mg_value.specs.declared.shape.Kind.TheVariants as kinds
use Rattle.mg_value.specs.declared.shape.Column.{Column}
use Rattle.mg_value.specs.declared.shape.Shape.{Shape}
use Rattle.mg_value.specs.declared.shape.TheConstants.{MOST_COLUMNS}
use Rattle.mg_value.specs.declared.value.Value.{Value}
use Rattle.mg_value.specs.Rows.{FitsKind, RowFits, row_len_of}
use Rattle.mg_sortkey.specs.KeyBytes.{most_key_bytes}
use Rattle.mg_model.specs.declared.answer.Answer.TheVariants.{Fine, No}
use Rattle.mg_model.specs.declared.event.Event.{Event}
use Rattle.mg_model.specs.declared.event.Event.TheVariants as events
use Rattle.mg_model.specs.declared.opening.Opening.{Opening}
use Rattle.mg_model.specs.declared.refusal.Refusal.{Refusal}
use Rattle.mg_model.specs.declared.table.Table.{Table}
use Rattle.mg_model.specs.Changes.{Cells}
use Rattle.mg_model.specs.Catalog.{catalog_name, key_of}
use Rattle.mg_model.specs.History.{Entries, entry}
use Rattle.mg_model.specs.Legal.{IsLawful}
use Rattle.mg_catalog.specs.RowsSaid.{table_row, column_rows}
use Rattle.mg_records.specs.declared.write.Write.{Write}
use Rattle.mg_records.specs.declared.write.Write.TheVariants as writes
use Rattle.mg_records.specs.Meaning.{Means}

-- ---- rows

-- the event of a write
abbrev pub event_of : TxNo → List ℕ → Write → Event
event_of t table (writes.Insert row) = events.Insert t table row
event_of t table (writes.Change key row) = events.Change t table key row
event_of t table (writes.Erase key) = events.Erase t table key

-- a value is of the kind of a column
abbrev pub IsOfColumn : Option Column → Value → Type 0
IsOfColumn None value = ⊥
IsOfColumn (Some column) value = FitsKind column.kind value

-- a write fits a shape: its row does, and has the key under which it is put; a key is of the kind of
-- the key's column
abbrev pub FitsShape : Shape → Write → Type 0
FitsShape shape (writes.Insert row) = RowFits shape.columns row
FitsShape shape (writes.Change key row) = RowFits shape.columns row × (key_of shape row ≡ key)
FitsShape shape (writes.Erase key) = IsOfColumn (slice_get shape.columns shape.key) key

-- ---- new tables

-- a VARCHAR has 1 to 1000 bytes
abbrev pub IsOfLength : Kind → Type 0
IsOfLength kinds.Int = Unit {0}
IsOfLength (kinds.Text most) = (1 ≤ most) × (most ≤ 1000)

-- no two columns have one name
abbrev pub AreApart : List Column → Type 0
AreApart columns = (i j : ℕ) (a b : Column) → slice_get columns i ≡ Some a
    → slice_get columns j ≡ Some b → a.name ≡ b.name → i ≡ j

-- the column of the key is there, and is never NULL
abbrev pub IsKeyColumn : Option Column → Type 0
IsKeyColumn None = ⊥
IsKeyColumn (Some column) = column.not_null ≡ true

-- Columns that a new table may have.
pub record IsNewShape (shape : Shape) : Type 0 where
  pub most : length shape.columns ≤ MOST_COLUMNS
  pub named : All (λ column. IsName column.name) shape.columns
  pub apart : AreApart shape.columns
  pub key : IsKeyColumn (slice_get shape.columns shape.key)
  pub lengths : All (λ column. IsOfLength column.kind) shape.columns
  pub first : All (λ column. column.since ≡ 1) shape.columns

-- how many bytes a key of a column has at most
abbrev pub most_of : Option Column → ℕ
most_of None = 0
most_of (Some column) = most_key_bytes column.kind

-- a row of the shape takes at most half a page of this size, and a key at most an eighth
pub record FitsPage (size : ℕ) (shape : Shape) : Type 0 where
  pub rows : row_len_of shape.columns ≤ size / 2
  pub keys : most_of (slice_get shape.columns shape.key) ≤ size / 8

-- it does so for a page size that the keeper has
abbrev pub FitsPages : {R P : Type 0} → Means R P → R → Shape → Type 0
FitsPages m r shape = (size : ℕ) × (m.is_size r size ≡ true) × FitsPage size shape

-- the rows of the catalog that say a new table, that of the table first; page numbers read as 0
abbrev pub new_table : List ℕ → Shape → Table
new_table name shape =
    record { name = name; shape = shape; pointer = record { 0 = 0 }; indexes = [] }

abbrev pub rows_made : List ℕ → Shape → List Cells
rows_made name shape =
    table_row (new_table name shape) ∷ column_rows name shape.key 0 shape.columns

-- The rows come into the catalog one after another. Where the call is refused, the last one that
-- was tried is, so, and none comes behind it.
abbrev pub InsertsEach : {R P : Type 0} → Means R P → R → Opening → TxNo → List Cells → Entries
    → Option Refusal → Type 0
InsertsEach m new o t [] h None = m.stands new o h
InsertsEach m new o t [] h (Some refusal) = ⊥
InsertsEach m new o t (row ∷ rows) h refusal =
    (IsLawful o h (entry (events.Insert t catalog_name row) Fine)
    × InsertsEach m new o t rows (entry (events.Insert t catalog_name row) Fine ∷ h) refusal)
    ⊎ ((r : Refusal) × (refusal ≡ Some r)
    × IsLawful o h (entry (events.Insert t catalog_name row) (No r))
    × m.stands new o (entry (events.Insert t catalog_name row) (No r) ∷ h))

-- a call makes a table
abbrev pub MakesTable : {R P : Type 0} → Means R P → R → R → TxNo → List ℕ → Shape
    → Option Refusal → Type 0
MakesTable m old new t name shape refusal = (o : Opening) (h : Entries) → m.stands old o h
    → InsertsEach m new o t (rows_made name shape) h refusal
