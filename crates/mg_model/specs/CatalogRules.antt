-- Which rows of a catalog are lawful, and which tables they name.
use Rattle.std.specs.Prelude.{◌≡◌, ◌≢◌, ◌⊎◌, ◌<◌, ◌≤◌, ◌^◌, ℕ, ◌==◌, pos, List, [], ◌∷◌, ◌++◌, length, Some, if◌then◌else◌}
use Rattle.std.specs.Cmp.Lexicographic.{slice_cmp}
use Rattle.std.specs.Ordering.{nat_cmp}
use Rattle.std.specs.declared.cmp.Ordering.TheVariants.{Less}
use Rattle.mg_value.specs.declared.value.Value.{Value}
use Rattle.mg_value.specs.declared.value.Value.TheVariants.{Null, Int, Text}
use Rattle.mg_value.specs.declared.shape.TheConstants.{MOST_COLUMNS}
use Rattle.mg_value.specs.Names.{IsName}
use Rattle.mg_model.specs.declared.table.Table.{Table}
use Rattle.mg_model.specs.declared.table.Index.{Index}
use Rattle.mg_model.specs.Changes.{Cells}
use Rattle.mg_model.specs.Catalog.{CatalogRows, catalog_name, table_key, column_key, index_key, said_a, said_b, said_c, said_d, said_name, shape_said}

-- a row of the catalog: its key, its name, and the numbers A to D
abbrev pub catalog_row : Value → Value → ℕ → ℕ → ℕ → ℕ → Cells
catalog_row key name a b c d =
    key ∷ name ∷ Int (pos a) ∷ Int (pos b) ∷ Int (pos c) ∷ Int (pos d) ∷ []

-- ---- indexes

-- An index beside the primary one, as its row says it.
pub record IsIndexOf (rows : CatalogRows) (table : List ℕ) (i : Index) : Type 0 where
  pub row : Cells
  pub there : rows (index_key i.name) ≡ Some row
  pub of_table : said_name row ≡ table
  pub column : i.column ≡ said_b row
  pub root : i.root.0 ≡ said_a row

-- an index of this name is one of these
abbrev pub HasIndex : List Index → List ℕ → Type 0
HasIndex [] name = ⊥
HasIndex (i ∷ is) name = (i.name ≡ name) ⊎ HasIndex is name

-- each index has a property
abbrev pub EachIndex : (Index → Type 0) → List Index → Type 0
EachIndex P [] = Unit {0}
EachIndex P (i ∷ is) = P i × EachIndex P is

-- one name comes before another
abbrev pub IsBefore : List ℕ → List ℕ → Type 0
IsBefore a b = slice_cmp nat_cmp a b ≡ Less

-- names ascend
abbrev pub Ascend : List (List ℕ) → Type 0
Ascend [] = Unit {0}
Ascend (a ∷ []) = Unit {0}
Ascend (a ∷ b ∷ names) = IsBefore a b × Ascend (b ∷ names)

-- the names of indexes
abbrev pub index_names : List Index → List (List ℕ)
index_names [] = []
index_names (i ∷ is) = i.name ∷ index_names is

-- These are the indexes of a table beside the primary one, in the order of their names.
pub record AreIndexes (rows : CatalogRows) (table : List ℕ) (indexes : List Index) : Type 0 where
  pub each : EachIndex (IsIndexOf rows table) indexes
  pub whole : (name : List ℕ) (row : Cells) → rows (index_key name) ≡ Some row
      → said_name row ≡ table → HasIndex indexes name
  pub ascending : Ascend (index_names indexes)

-- ---- lawful rows

-- the column at a place is the primary key's
abbrev pub IsKeyColumn : CatalogRows → List ℕ → ℕ → Type 0
IsKeyColumn rows table place =
    (row : Cells) × (rows (column_key table place) ≡ Some row) × (said_b row ≡ 3)

-- The row of a table is lawful.
pub record IsTableRow (rows : CatalogRows) (name : List ℕ) (row : Cells) : Type 0 where
  pub named : IsName name
  -- the catalog has no row of its own
  pub other : name ≢ catalog_name
  pub spelled : row
      ≡ catalog_row (table_key name) Null (said_a row) (said_b row) (said_c row) (said_d row)
  -- it has 1 to 64 columns, each with a row
  pub some : 1 ≤ said_b row
  pub most : said_b row ≤ MOST_COLUMNS
  pub columns : (place : ℕ) → place < said_b row
      → (column : Cells) × (rows (column_key name place) ≡ Some column)
  -- exactly one is the primary key's
  pub key : (place : ℕ) × (place < said_b row) × IsKeyColumn rows name place
      × ((other : ℕ) → IsKeyColumn rows name other → other ≡ place)
  -- its first pointer page and its root are page numbers
  pub pointer : said_a row < 2 ^ 32
  pub root : said_c row < 2 ^ 32
  -- it counts the other indexes
  pub indexes : (others : List Index) × AreIndexes rows name others × (length others ≡ said_d row)

-- The row of a column is lawful.
pub record IsColumnRow (rows : CatalogRows) (table : List ℕ) (place : ℕ) (row : Cells) : Type 0 where
  pub of_table : (t : Cells) × (rows (table_key table) ≡ Some t) × (place < said_b t)
  pub spelled : row ≡ catalog_row (column_key table place) (Text (said_name row))
      (said_a row) (said_b row) (said_c row) place
  pub named : IsName (said_name row)
  -- BIGINT, or VARCHAR of at most 1000 bytes
  pub short : said_a row ≤ 1000
  -- it may be NULL, or not, or is the primary key's
  pub flags : (said_b row ≡ 0) ⊎ (said_b row ≡ 1) ⊎ (said_b row ≡ 3)
  -- the record format from which on it is there, a number of two bytes
  pub since : 1 ≤ said_c row
  pub format : said_c row < 2 ^ 16
  -- one that came later than its table may be NULL, since the rows from before have none of it
  pub added : (said_c row ≡ 1) ⊎ (said_b row ≡ 0)
  -- no other column of the table has the name, and none before it came later
  pub apart : (other : ℕ) (column : Cells) → rows (column_key table other) ≡ Some column
      → said_name column ≡ said_name row → other ≡ place
  pub later : (other : ℕ) (column : Cells) → other ≤ place
      → rows (column_key table other) ≡ Some column → said_c column ≤ said_c row

-- The row of an index is lawful.
pub record IsIndexRow (rows : CatalogRows) (name : List ℕ) (row : Cells) : Type 0 where
  pub named : IsName name
  pub spelled : row
      ≡ catalog_row (index_key name) (Text (said_name row)) (said_a row) (said_b row) 0 0
  -- its root is a page number; page 0 is the header, and no root
  pub root : said_a row < 2 ^ 32
  pub rooted : 1 ≤ said_a row
  pub of_table : (t : Cells) × (rows (table_key (said_name row)) ≡ Some t) × (said_b row < said_b t)

-- a row is lawful under its key: that of a table, of a column or of an index
abbrev pub IsCatalogRow : CatalogRows → Value → Cells → Type 0
IsCatalogRow rows key row =
    ((name : List ℕ) × (key ≡ table_key name) × IsTableRow rows name row)
    ⊎ ((table : List ℕ) × (place : ℕ) × (key ≡ column_key table place)
    × IsColumnRow rows table place row)
    ⊎ ((name : List ℕ) × (key ≡ index_key name) × IsIndexRow rows name row)

-- the rows of a catalog are lawful
abbrev pub IsCatalog : CatalogRows → Type 0
IsCatalog rows = (key : Value) (row : Cells) → rows key ≡ Some row → IsCatalogRow rows key row

-- ---- the tables

-- the primary index, if there is one: the table's row has its root, and 0 for none
abbrev pub primary_index : List ℕ → ℕ → ℕ → List Index
primary_index name key root =
    if root == 0 then []
    else record { name = name; column = key; root = record { 0 = root } } ∷ []

-- A table, as the rows say it.
pub record IsTable (rows : CatalogRows) (table : Table) : Type 0 where
  pub row : Cells
  pub there : rows (table_key table.name) ≡ Some row
  pub shape : shape_said rows table.name (Some row) ≡ Some table.shape
  pub pointer : table.pointer.0 ≡ said_a row
  pub others : List Index
  pub are_others : AreIndexes rows table.name others
  pub indexes : table.indexes ≡ primary_index table.name table.shape.key (said_c row) ++ others

-- a table of this name is one of these
abbrev pub HasTableOf : List Table → List ℕ → Type 0
HasTableOf [] name = ⊥
HasTableOf (t ∷ ts) name = (t.name ≡ name) ⊎ HasTableOf ts name

-- each table has a property
abbrev pub EachTable : (Table → Type 0) → List Table → Type 0
EachTable P [] = Unit {0}
EachTable P (t ∷ ts) = P t × EachTable P ts

abbrev pub table_names : List Table → List (List ℕ)
table_names [] = []
table_names (t ∷ ts) = t.name ∷ table_names ts

-- The rows are lawful, and these are the tables that they name, in the order of their names.
pub record AreTables (rows : CatalogRows) (tables : List Table) : Type 0 where
  pub lawful : IsCatalog rows
  pub each : EachTable (IsTable rows) tables
  pub whole : (name : List ℕ) (row : Cells) → rows (table_key name) ≡ Some row
      → HasTableOf tables name
  pub ascending : Ascend (table_names tables)
