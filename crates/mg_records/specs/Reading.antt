-- Tables and rows as a transaction sees them.
use Rattle.std.specs.Prelude.{◌≡◌, ◌≢◌, ℕ, ◌<◌, ◌≤◌, List, [], ◌∷◌, length, Option, Some, None, Result, Ok, Err, IsPermutation, if◌then◌else◌}
use Rattle.mg_base.specs.declared.numbers.TxNo.{TxNo}
use Rattle.mg_base.specs.declared.transaction.TxState.TheVariants.{Active}
use Rattle.mg_value.specs.declared.shape.Shape.{Shape}
use Rattle.mg_value.specs.declared.shape.TheConstants.{MOST_COLUMNS}
use Rattle.mg_value.specs.Rows.{RowFits}
use Rattle.mg_expr.specs.declared.expr.Expr.{Expr}
use Rattle.mg_model.specs.declared.answer.Answer.TheVariants.{Rows, No}
use Rattle.mg_model.specs.declared.event.Event.TheVariants.{Find}
use Rattle.mg_model.specs.declared.opening.Opening.{Opening}
use Rattle.mg_model.specs.declared.refusal.Refusal.{Refusal}
use Rattle.mg_model.specs.declared.refusal.Refusal.TheVariants.{NoTable}
use Rattle.mg_model.specs.declared.table.Table.{Table}
use Rattle.mg_value.specs.declared.value.Value.{Value}
use Rattle.mg_value.specs.declared.value.Value.TheVariants.{Null}
use Rattle.mg_model.specs.Changes.{Cells, KeyedRows, same_name, rows_of}
use Rattle.mg_model.specs.Catalog.{CatalogRows, catalog_name, key_of, table_key, shape_said}
use Rattle.mg_model.specs.History.{Entries, entry}
use Rattle.mg_model.specs.Machine.{state_of, view}
use Rattle.mg_model.specs.Answers.{told, catalog_of, answer}
use Rattle.mg_model.specs.Legal.{IsLawful}
use Rattle.mg_records.specs.declared.found.Found.{Found}
use Rattle.mg_records.specs.Meaning.{Means}
use Rattle.mg_records.specs.Adding.{IsRefused}

-- ---- tables

-- the shape of a table that these rows of a catalog name; the catalog is no table by its name
abbrev pub shape_named : CatalogRows → List ℕ → Option Shape
shape_named rows name =
    if same_name name catalog_name then None else shape_said rows name (rows (table_key name))

-- the shape of the table with a name that a transaction sees
abbrev pub shape_seen : Opening → Entries → ℕ → List ℕ → Option Shape
shape_seen o h t name = shape_named (catalog_of (told o h) t) name

-- a call gives the table of a name that a transaction sees, or tells that it sees none
abbrev pub TellsTable : {R P : Type 0} → Means R P → R → ℕ → List ℕ → Result Table Refusal → Type 0
TellsTable m old t name (Ok table) = (o : Opening) (h : Entries) → m.stands old o h
    → (state_of o h t ≡ Active) × (shape_seen o h t name ≡ Some table.shape)
TellsTable m old t name (Err NoTable) = (o : Opening) (h : Entries) → m.stands old o h
    → (state_of o h t ≡ Active) × (shape_seen o h t name ≡ None)
TellsTable m old t name (Err refusal) = (o : Opening) (h : Entries) → m.stands old o h
    → IsRefused o h t refusal

-- the table that was given has the name; it is given again as long as the transaction's view stays
pub record IsTableGiven {R P : Type 0} (m : Means R P) (new : R) (t : ℕ) (name : List ℕ)
    (table : Table) : Type 0 where
  pub named : table.name ≡ name
  pub again : m.table new t name ≡ Some table
  pub given : m.was_given new table
  pub few : length table.shape.columns ≤ MOST_COLUMNS

-- a table that is given is the one that the history tells
abbrev pub TablesAreSeen : {R P : Type 0} → Means R P → Type 0
TablesAreSeen {R = R} m = (r : R) (o : Opening) (h : Entries) (t : ℕ) (name : List ℕ) (table : Table)
    → m.stands r o h → state_of o h t ≡ Active → m.table r t name ≡ Some table
    → (table.name ≡ name) × (shape_seen o h t name ≡ Some table.shape)

-- ---- rows

-- a place was given, if there is one
abbrev pub IsPlace : {R P : Type 0} → Means R P → R → Table → Option P → Type 0
IsPlace m r table None = Unit {0}
IsPlace m r table (Some place) = m.is_place r table place

-- a visit gives its place, at which a record stands, and is nearer to the end
abbrev pub Nears : {R P : Type 0} → Means R P → R → R → ℕ → Table → Option P
    → Result (Option (Found P)) Refusal → Type 0
Nears m old new t table after (Ok (Some found)) = m.is_place new table found.place
    × (m.still new t table (Some found.place) < m.still old t table after)
    × m.has_record new t table found.place
Nears m old new t table after (Ok None) = Unit {0}
Nears m old new t table after (Err r) = Unit {0}

-- A row may stand in a table of the shape: it fits the columns, and has a key.
pub record MayStand (shape : Shape) (row : Cells) : Type 0 where
  pub fits : RowFits shape.columns row
  pub keyed : key_of shape row ≢ Null

-- the row of a record may stand there and has the key under which it is found, if there is one
abbrev pub StandsUnderKey : Shape → Option (Value × Cells) → Type 0
StandsUnderKey shape None = Unit {0}
StandsUnderKey shape (Some keyed) = MayStand shape keyed.1 × (key_of shape keyed.1 ≡ keyed.0)

-- so does the row that a visit gives, whatever the keeper stands for
abbrev pub FindsFitting : {P : Type 0} → Shape → Result (Option (Found P)) Refusal → Type 0
FindsFitting shape (Ok None) = Unit {0}
FindsFitting shape (Ok (Some found)) = StandsUnderKey shape found.row
FindsFitting shape (Err refusal) = Unit {0}

-- rows behind a row, if there is one
abbrev pub with_found : Option (Value × Cells) → KeyedRows → KeyedRows
with_found None rows = rows
with_found (Some row) rows = row ∷ rows

-- a visit comes to the next of the rows to come, or to a record in which the transaction sees none;
-- it is the end exactly where no row and no record is to come
abbrev pub Visits : {R P : Type 0} → Means R P → R → ℕ → Table
    → Result (Option (Found P)) Refusal → KeyedRows → Type 0
Visits m new t table (Ok None) rows = rows ≡ []
Visits m new t table (Ok (Some found)) rows = (more : KeyedRows)
    × (rows ≡ with_found found.row more) × m.to_come new t table (Some found.place) more
Visits m new t table (Err r) rows = Unit {0}

-- a walk comes to each row of the view once, in some order
abbrev pub WalksAreWhole : {R P : Type 0} → Means R P → Type 0
WalksAreWhole {R = R} m = (r : R) (o : Opening) (h : Entries) (t : ℕ) (table : Table)
    → m.stands r o h → state_of o h t ≡ Active → m.table r t table.name ≡ Some table
    → (rows : KeyedRows) × m.to_come r t table None rows
    × IsPermutation rows (rows_of (view o h t) table.name)

-- a statement tells what it found: where that is what the machine finds, the entry has these rows
abbrev pub FindAdds : {R P : Type 0} → Means R P → R → R → TxNo → List ℕ → Option Expr → List Cells
    → Result (Unit {0}) Refusal → Type 0
FindAdds m old new t name filter rows (Ok x) = (o : Opening) (h : Entries) → m.stands old o h
    → answer o h (Find t name filter) ≡ Rows rows
    → m.stands new o (entry (Find t name filter) (Rows rows) ∷ h)
FindAdds m old new t name filter rows (Err refusal) = (o : Opening) (h : Entries) → m.stands old o h
    → IsLawful o h (entry (Find t name filter) (No refusal))
    × m.stands new o (entry (Find t name filter) (No refusal) ∷ h)
