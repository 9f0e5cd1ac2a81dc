-- The walks of transactions by the indexes of tables.
use Rattle.std.specs.Prelude.{◌≡◌, ◌<◌, ℕ, Bool, true, false, [], ◌∷◌, ◌++◌, length, get_or, Option, Some, None, Result, Ok, Err, IsPermutation}
use Rattle.mg_base.specs.declared.transaction.TxState.TheVariants.{Active}
use Rattle.mg_value.specs.declared.value.Value.{Value}
use Rattle.mg_value.specs.declared.value.Value.TheVariants.{Null}
use Rattle.mg_model.specs.declared.opening.Opening.{Opening}
use Rattle.mg_model.specs.declared.refusal.Refusal.{Refusal}
use Rattle.mg_model.specs.declared.table.Table.{Table}
use Rattle.mg_model.specs.Changes.{Cells, KeyedRows, rows_of}
use Rattle.mg_model.specs.History.{Entries}
use Rattle.mg_model.specs.Machine.{state_of, view}
use Rattle.mg_paths.specs.declared.range.Range.{Range}
use Rattle.mg_paths.specs.Plans.{column_at}
use Rattle.mg_paths.specs.Ranges.{lies_in}
use Rattle.mg_records.specs.declared.found.Found.{Found}
use Rattle.mg_records.specs.Meaning.{Means}
use Rattle.mg_records.specs.Reading.{with_found}

-- ---- ranges

-- a row's value in a column lies in a range
abbrev pub lies_within : ℕ → Range → Value × Cells → Bool
lies_within column range row = lies_in range (get_or row.1 column Null)

-- each of some rows lies in a range by its value in a column, or none does
abbrev pub AllLie : Bool → ℕ → Range → KeyedRows → Type 0
AllLie lies column range [] = Unit {0}
AllLie lies column range (row ∷ rows) = (lies_within column range row ≡ lies) × AllLie lies column range rows

-- Of some rows these are all that lie in a range, each once: with others, of which none does, they are all, in some order.
pub record AreWithin (column : ℕ) (range : Range) (rows all : KeyedRows) : Type 0 where
  pub others : KeyedRows
  pub whole : IsPermutation (rows ++ others) all
  pub within : AllLie true column range rows
  pub outside : AllLie false column range others

-- the column of an index of a table, by its place in the table's list
abbrev pub column_of : Table → ℕ → ℕ
column_of table index = column_at table.indexes index

-- ---- walks

-- What is known of a keeper of records whose tables have indexes.
pub record Indexing (R E : Type 0) : Type 1 where
  -- the rows of a table within a range of an index, with their keys, to which a transaction's walk by the index still
  -- comes behind an entry, none for the beginning, in the order in which they are visited; the index is named by its
  -- place in the table's list
  pub to_come : R → ℕ → Table → ℕ → Range → Option E → KeyedRows → Type 0
  -- a number that falls with each visit, so that a walk ends
  pub still : R → ℕ → Table → ℕ → Range → Option E → ℕ

-- a visit is nearer to the end
abbrev pub NearsBy : {R E : Type 0} → Indexing R E → R → R → ℕ → Table → ℕ → Range → Option E
    → Result (Option (Found E)) Refusal → Type 0
NearsBy c old new t table index range after (Ok (Some found)) =
    c.still new t table index range (Some found.place) < c.still old t table index range after
NearsBy c old new t table index range after (Ok None) = Unit {0}
NearsBy c old new t table index range after (Err r) = Unit {0}

-- the value of a row in the column of an index lies in the range, if there is a row
abbrev pub IsWithin : Table → ℕ → Range → Option (Value × Cells) → Type 0
IsWithin table index range None = Unit {0}
IsWithin table index range (Some row) = lies_within (column_of table index) range row ≡ true

-- so it is of the row that a visit gives, whatever the keeper stands for
abbrev pub FindsWithin : {E : Type 0} → Table → ℕ → Range → Result (Option (Found E)) Refusal → Type 0
FindsWithin table index range (Ok (Some found)) = IsWithin table index range found.row
FindsWithin table index range (Ok None) = Unit {0}
FindsWithin table index range (Err r) = Unit {0}

-- a visit comes to the next of the rows to come, or to an entry that gives none of them; it is the end exactly where no
-- row and no entry is to come
abbrev pub VisitsBy : {R E : Type 0} → Indexing R E → R → ℕ → Table → ℕ → Range → Result (Option (Found E)) Refusal
    → KeyedRows → Type 0
VisitsBy c new t table index range (Ok None) rows = rows ≡ []
VisitsBy c new t table index range (Ok (Some found)) rows = (more : KeyedRows)
    × (rows ≡ with_found found.row more) × c.to_come new t table index range (Some found.place) more
VisitsBy c new t table index range (Err r) rows = Unit {0}

-- ---- what holds of all walks

-- a walk by an index comes to each row of the view in the range once, in some order
abbrev pub IndexWalksAreWhole : {R P E : Type 0} → Means R P → Indexing R E → Type 0
IndexWalksAreWhole {R = R} m c = (r : R) (o : Opening) (h : Entries) (t : ℕ) (table : Table) (index : ℕ) (range : Range)
    → m.stands r o h → state_of o h t ≡ Active → m.table r t table.name ≡ Some table
    → index < length table.indexes
    → (rows : KeyedRows) × c.to_come r t table index range None rows
    × AreWithin (column_of table index) range rows (rows_of (view o h t) table.name)

-- where the walks of a transaction over the records of a table go on as they would have, so do its walks by the indexes
-- of the table
abbrev pub IndexWalksFollow : {R P E : Type 0} → Means R P → Indexing R E → Type 0
IndexWalksFollow {R = R} {P = P} {E = E} m c = (old new : R) (t : ℕ) (table : Table)
    → ((after : Option P) (rows : KeyedRows) → m.to_come old t table after rows → m.to_come new t table after rows)
    → (index : ℕ) (range : Range) (after : Option E) (rows : KeyedRows)
    → c.to_come old t table index range after rows → c.to_come new t table index range after rows
