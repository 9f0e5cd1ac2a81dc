-- The rows that the records at these places show, and the changes of transactions in limbo there.
use Rattle.std.proofs.Common.{◌==◌, ◌&&◌, ◌||◌, ℕ, Bool, List, [], ◌∷◌, Option, None, Some}
use Rattle.std.specs.Prelude.{if◌then◌else◌, is_some}
use Rattle.mg_base.specs.declared.numbers.RecId.{RecId}
use Rattle.mg_value.specs.declared.value.Value.{Value}
use Rattle.mg_model.specs.Catalog.{catalog_name, table_key}
use Rattle.mg_model.specs.Changes.{same_key, same_name}
use Rattle.mg_model.specs.Legal.{is_limbo}
use Rattle.mg_model.specs.declared.table.Table.{Table}
use Rattle.mg_image.specs.declared.entry.Entry.{Entry}
use Rattle.mg_image.specs.Form.{Row}
use Rattle.mg_image.specs.Held.{Changes, Database, told_change, told_row}
use Rattle.mg_image.specs.RecordRules.{Facts, committed_in, table_in}
use Rattle.mg_image.specs.Records.{Change, Reading, change_in, key_of, shown, writer}

-- the first of two
abbrev pub either : {A : Type 0} → Option A → Option A → Option A
either None b = b
either (Some a) b = Some a

-- ---- rows

-- the row of a record that is shown, under a table's name and a key
abbrev pub row_under : Table → List ℕ → Value → Option Row → Option Row
row_under table name key None = None
row_under table name key (Some row) =
    if same_name table.name name && same_key (key_of table row) key then Some (told_row table row) else None

abbrev pub row_of : (List ℕ → Bool) → List ℕ → Value → Option Row → Option Table → Option Row
row_of named name key row None = None
row_of named name key row (Some table) = if named table.name then row_under table name key row else None

abbrev pub row_here : Facts → Reading → (List ℕ → Bool) → RecId → List ℕ → Value → Option Row
row_here f r named p name key = row_of named name key (shown (committed_in f) (r p)) (table_in f p)

-- the rows of the tables of these names
abbrev pub rows_at : Facts → Reading → (List ℕ → Bool) → List RecId → Database
rows_at f r named [] name key = None
rows_at f r named (p ∷ ps) name key = either (row_here f r named p name key) (rows_at f r named ps name key)

-- the catalog's name alone
abbrev pub is_catalog : List ℕ → Bool
is_catalog name = same_name name catalog_name

-- a table is named by the catalog's rows, or is the catalog
abbrev pub is_named : Facts → Reading → List RecId → List ℕ → Bool
is_named f r ps name = is_catalog name || is_some (rows_at f r is_catalog ps catalog_name (table_key name))

-- all rows
abbrev pub database_at : Facts → Reading → List RecId → Database
database_at f r ps = rows_at f r (is_named f r ps) ps

-- ---- changes

-- the change of a record's newest version, where it is of this transaction in limbo, under a table's name
-- and a key
abbrev pub change_under : Facts → ℕ → Table → List ℕ → Value → List Entry → Option Change
change_under f t table name key [] = None
change_under f t table name key (e ∷ es) =
    if is_limbo (f.state (writer e)) && (writer e == t
    && (same_name table.name name && same_key (key_of table e.row) key))
    then Some (told_change table (change_in e)) else None

abbrev pub change_of_table : Facts → ℕ → List ℕ → Value → List Entry → Option Table → Option Change
change_of_table f t name key es None = None
change_of_table f t name key es (Some table) = change_under f t table name key es

abbrev pub change_here : Facts → Reading → RecId → ℕ → List ℕ → Value → Option Change
change_here f r p t name key = change_of_table f t name key (r p) (table_in f p)

abbrev pub changes_at : Facts → Reading → List RecId → Changes
changes_at f r [] t name key = None
changes_at f r (p ∷ ps) t name key = either (change_here f r p t name key) (changes_at f r ps t name key)
