-- The catalog as a table, the tables that its rows name, and whose versions a table has.
use Rattle.std.specs.Prelude.{◌≡◌, ◌⊎◌, ◌≤◌, ◌/◌, ◌&&◌, ◌||◌, ℕ, Bool, true, false, List, [], ◌∷◌, map, slice_index_or, Some}
use Rattle.mg_base.specs.declared.numbers.RecId.{RecId}
use Rattle.mg_base.specs.declared.transaction.TxState.TheVariants.{Dead}
use Rattle.mg_value.specs.declared.shape.Column.{Column}
use Rattle.mg_value.specs.Rows.{row_len_of}
use Rattle.mg_sortkey.specs.KeyBytes.{most_key_bytes}
use Rattle.mg_model.specs.declared.table.Table.{Table}
use Rattle.mg_model.specs.Answers.{is_committed}
use Rattle.mg_model.specs.Catalog.{catalog_name, catalog_shape, table_key}
use Rattle.mg_model.specs.CatalogRules.{AreTables, EachIndex, EachTable}
use Rattle.mg_model.specs.Legal.{is_limbo}
use Rattle.mg_image.specs.declared.entry.Entry.{Entry}
use Rattle.mg_image.specs.Form.{Row, Rows}
use Rattle.mg_image.specs.Held.{AreRows, HasLimbo, Shows}
use Rattle.mg_image.specs.RecordRules.{Each, Facts, committed_in, table_in}
use Rattle.mg_image.specs.Records.{Reading, key_of, writer}

-- the catalog as a table, from its first pointer page on
abbrev pub catalog_table : ℕ → Table
catalog_table pointer = record {
  name = catalog_name;
  shape = catalog_shape;
  pointer = record { 0 = pointer };
  indexes = [];
}

-- ---- the tables that rows name

-- how many bytes the longest key of the column at a place has
abbrev pub longest_key : List Column → ℕ → ℕ
longest_key columns place = slice_index_or (map (λ column. most_key_bytes column.kind) columns) place 0

-- A table fits pages of a size: a row of it takes at most half a page, and a key of its primary key
-- or of an index at most an eighth of one, rounded down.
pub record FitsPages (size : ℕ) (table : Table) : Type 0 where
  pub rows : row_len_of table.shape.columns ≤ size / 2
  pub keys : longest_key table.shape.columns table.shape.key ≤ size / 8
  pub indexes : EachIndex (λ index. longest_key table.shape.columns index.column ≤ size / 8)
      table.indexes

-- Where these transactions count as committed, the catalog's rows are lawful and name these tables,
-- each of which fits the pages.
pub record CatalogNames (size : ℕ) (f : Facts) (committed : ℕ → Bool) (r : Reading)
    (catalog : Table) (tables : List Table) : Type 0 where
  pub rows : Rows
  pub are_rows : AreRows f committed r catalog rows
  pub are_tables : AreTables rows tables
  pub fit : EachTable (FitsPages size) tables

-- two tables have one name, one shape and one first page
pub record IsSameTable (a b : Table) : Type 0 where
  pub name : a.name ≡ b.name
  pub shape : a.shape ≡ b.shape
  pub pointer : a.pointer ≡ b.pointer

-- a table is one of these, but for its indexes
abbrev pub StaysAmong : List Table → Table → Type 0
StaysAmong [] table = ⊥
StaysAmong (other ∷ tables) table = IsSameTable other table ⊎ StaysAmong tables table

-- whether a transaction is committed once the chosen limbo transactions are
abbrev pub committed_with : Facts → (ℕ → Bool) → ℕ → Bool
committed_with f chosen t = is_committed (f.state t) || (is_limbo (f.state t) && chosen t)

-- one choice has all transactions of another
abbrev pub IsWithin : (ℕ → Bool) → (ℕ → Bool) → Type 0
IsWithin chosen more = (t : ℕ) → chosen t ≡ true → more t ≡ true

-- The catalog's rows are lawful, and name these tables.
pub record HasNames (size : ℕ) (f : Facts) (r : Reading) (catalog : Table) (tables : List Table)
    : Type 0 where
  -- whichever limbo transactions come to be committed, the rows are lawful, and name these
  pub named : (ℕ → Bool) → List Table
  pub lawful : (chosen : ℕ → Bool)
      → CatalogNames size f (committed_with f chosen) r catalog (named chosen)
  -- with the changes of all of them, they name the tables
  pub all : CatalogNames size f (committed_with f (λ t. true)) r catalog tables
  -- and no transaction in limbo takes a table away, or gives it another first page or shape
  pub stay : (chosen more : ℕ → Bool) → IsWithin chosen more
      → EachTable (StaysAmong (named more)) (named chosen)

-- ---- whose versions a table has

-- A committed row of the catalog names a table.
pub record IsNamed (f : Facts) (r : Reading) (catalog : Table) (name : List ℕ) : Type 0 where
  pub place : RecId
  pub row : Row
  pub shows : Shows f (committed_in f) r place catalog row
  pub keyed : key_of catalog row ≡ table_key name

-- A transaction in limbo has made a table: a row of its own in the catalog names it.
pub record HasMade (f : Facts) (r : Reading) (catalog : Table) (t : ℕ) (name : List ℕ)
    : Type 0 where
  pub place : RecId
  pub version : Entry
  pub limbo : HasLimbo f r place catalog version
  pub its_own : writer version ≡ t
  pub alive : version.version.deleted ≡ false
  pub keyed : key_of catalog version.row ≡ table_key name

-- a version may stand in a table: the catalog, or one that a committed row names, has those of all;
-- another one those of the transactions in limbo that have made it, and of dead ones
abbrev pub MayStandIn : Facts → Reading → Table → Table → Entry → Type 0
MayStandIn f r catalog table e = (table.name ≡ catalog_name) ⊎ IsNamed f r catalog table.name
    ⊎ (f.state (writer e) ≡ Dead) ⊎ HasMade f r catalog (writer e) table.name

-- each version of a record may stand in its table
abbrev pub HasOwnTables : Facts → Reading → Table → Type 0
HasOwnTables f r catalog = (p : RecId) (table : Table) → table_in f p ≡ Some table
    → Each (MayStandIn f r catalog table) (r p)
