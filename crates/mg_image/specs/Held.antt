-- What an image holds: the rows that its records show, by table and key, and the changes of its
-- limbo transactions.
use Rattle.std.specs.Prelude.{◌≡◌, ◌⊎◌, ◌==◌, ℕ, Bool, pos, List, ◌∷◌, Option, Some, IsSome, if◌then◌else◌}
use Rattle.std.proofs.Common.{get_or}
use Rattle.std.proofs.Math.ListN.{set}
use Rattle.std.specs.Str.{bytes_eq}
use Rattle.mg_base.specs.Fields.{byte}
use Rattle.mg_base.specs.declared.numbers.RecId.{RecId}
use Rattle.mg_base.specs.declared.transaction.TxState.TheVariants.{Limbo}
use Rattle.mg_value.specs.declared.value.Value.{Value}
use Rattle.mg_value.specs.declared.value.Value.TheVariants.{Null, Int}
use Rattle.mg_value.specs.Values.{bytes_of}
use Rattle.mg_model.specs.Catalog.{catalog_name, table_key}
use Rattle.mg_image.specs.declared.entry.Entry.{Entry}
use Rattle.mg_model.specs.declared.table.Table.{Table}
use Rattle.mg_image.specs.Form.{Row, Rows}
use Rattle.mg_image.specs.Records.{Change, Erases, Puts, Reading, change_in, key_of, shown, writer}
use Rattle.mg_image.specs.RecordRules.{Facts, table_in}

-- a database: for each table's name its rows by their keys
abbrev pub Database : Type 0
Database = List ℕ → Rows

-- the changes of limbo transactions, by transaction, table's name and key
abbrev pub Changes : Type 0
Changes = ℕ → List ℕ → Value → Option Change

-- a row of the catalog that begins with this letter, with each page number in it read as 0: A and C
-- of a table's row, A of an index's row
abbrev pub without_pages : ℕ → Row → Row
without_pages letter row =
    if letter == 84 then set (set row 2 (Int (pos 0))) 4 (Int (pos 0))
    else (if letter == 73 then set row 2 (Int (pos 0)) else row)

-- a row as a database has it: page numbers of the catalog's rows do not count
abbrev pub told_row : Table → Row → Row
told_row table row =
    if bytes_eq table.name catalog_name
    then without_pages (byte (bytes_of (get_or row 0 Null)) 0) row
    else row

-- a change as it is told
abbrev pub told_change : Table → Change → Change
told_change table (Puts row) = Puts (told_row table row)
told_change table Erases = Erases

-- A record of a table shows a row, where these transactions count as committed.
pub record Shows (f : Facts) (committed : ℕ → Bool) (r : Reading) (p : RecId) (table : Table)
    (row : Row) : Type 0 where
  pub of_table : table_in f p ≡ Some table
  pub row_shown : shown committed (r p) ≡ Some row

-- These are the rows of a table, as they are stored.
pub record AreRows (f : Facts) (committed : ℕ → Bool) (r : Reading) (table : Table) (rows : Rows)
    : Type 0 where
  pub there : (p : RecId) (row : Row) → Shows f committed r p table row
      → rows (key_of table row) ≡ Some row
  pub whole : (key : Value) (row : Row) → rows key ≡ Some row
      → (p : RecId) × Shows f committed r p table row × (key_of table row ≡ key)

-- a database has a table: the catalog, or one that has its row in the catalog
abbrev pub HasTable : Database → List ℕ → Type 0
HasTable db name = (name ≡ catalog_name) ⊎ IsSome (db catalog_name (table_key name))

-- A record shows this row of a database.
pub record IsHeldAt (f : Facts) (committed : ℕ → Bool) (r : Reading) (name : List ℕ) (key : Value)
    (row : Row) : Type 0 where
  pub place : RecId
  pub table : Table
  pub stored : Row
  pub shows : Shows f committed r place table stored
  pub named : table.name ≡ name
  pub keyed : key_of table stored ≡ key
  pub told : told_row table stored ≡ row

-- A database is held: it has the rows that the records of its tables show, and no others.
pub record IsHeld (f : Facts) (committed : ℕ → Bool) (r : Reading) (db : Database) : Type 0 where
  pub there : (p : RecId) (table : Table) (row : Row) → Shows f committed r p table row
      → HasTable db table.name → db table.name (key_of table row) ≡ Some (told_row table row)
  pub whole : (name : List ℕ) (key : Value) (row : Row) → db name key ≡ Some row
      → IsHeldAt f committed r name key row
  pub tables : (name : List ℕ) (key : Value) (row : Row) → db name key ≡ Some row
      → HasTable db name

-- The newest version of a record is of a limbo transaction.
pub record HasLimbo (f : Facts) (r : Reading) (p : RecId) (table : Table) (e : Entry) : Type 0 where
  pub of_table : table_in f p ≡ Some table
  pub older : List Entry
  pub newest : r p ≡ e ∷ older
  pub limbo : f.state (writer e) ≡ Limbo

-- A version makes this change of a limbo transaction.
pub record IsChangedAt (f : Facts) (r : Reading) (t : ℕ) (name : List ℕ) (key : Value)
    (change : Change) : Type 0 where
  pub place : RecId
  pub table : Table
  pub version : Entry
  pub limbo : HasLimbo f r place table version
  pub its_own : writer version ≡ t
  pub named : table.name ≡ name
  pub keyed : key_of table version.row ≡ key
  pub told : told_change table (change_in version) ≡ change

-- These are the changes of the limbo transactions: those that their versions make, and no others.
pub record AreChanges (f : Facts) (r : Reading) (changes : Changes) : Type 0 where
  pub there : (p : RecId) (table : Table) (e : Entry) → HasLimbo f r p table e
      → changes (writer e) table.name (key_of table e.row)
      ≡ Some (told_change table (change_in e))
  pub whole : (t : ℕ) (name : List ℕ) (key : Value) (change : Change)
      → changes t name key ≡ Some change → IsChangedAt f r t name key change
