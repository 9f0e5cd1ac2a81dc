-- The rules of a lawful row, one group at a time.
use Rattle.std.specs.Prelude.{◌≡◌, ◌≢◌, ◌⊎◌, ◌<◌, ◌≤◌, ◌^◌, ℕ, List, [], ◌∷◌, ◌++◌, codes, pos, Some, slice_index_or}
use Rattle.mg_value.specs.declared.value.Value.TheVariants.{Null, Int, Text}
use Rattle.mg_value.specs.declared.shape.TheConstants.{MOST_COLUMNS}
use Rattle.mg_value.specs.Names.{IsName}
use Rattle.mg_model.specs.Changes.{Cells}
use Rattle.mg_model.specs.Catalog.{CatalogRows, catalog_name, column_key, natural_of, said_a, said_b, said_c, said_d, said_name, table_key, two_digits}
use Rattle.mg_model.specs.CatalogRules.{IsKeyColumn, catalog_row}
use Rattle.mg_catalog.specs.ByKey.{row_key}

-- what follows the letter in the key of a column's row
abbrev pub column_text : List ℕ → ℕ → List ℕ
column_text table place = table ++ codes "." ++ two_digits place

-- a row has a number that is not negative at a place
abbrev pub HasNatural : Cells → ℕ → Type 0
HasNatural row at =
    slice_index_or row at Null ≡ Int (pos (natural_of (slice_index_or row at Null)))

-- a row has six values, of which the last four are numbers that are not negative
abbrev pub IsSpelled : Cells → Type 0
IsSpelled row = row ≡ catalog_row (row_key row) (slice_index_or row 1 Null)
    (said_a row) (said_b row) (said_c row) (said_d row)

-- there is a row of this table, which says that it has a column at this place
abbrev pub HasPlace : CatalogRows → List ℕ → ℕ → Type 0
HasPlace rows table place =
    (t : Cells) × (rows (table_key table) ≡ Some t) × (place < said_b t)

-- ---- the row of a table

-- the numbers of a table's row are lawful by themselves
abbrev pub HasTableNumbers : Cells → Type 0
HasTableNumbers row = (1 ≤ said_b row) × (said_b row ≤ MOST_COLUMNS)
    × (said_a row < 2 ^ 32) × (said_c row < 2 ^ 32)

-- the row of a table is lawful by itself
abbrev pub TableSpelled : List ℕ → Cells → Type 0
TableSpelled name row = IsSpelled row × (slice_index_or row 1 Null ≡ Null)
    × IsName name × (name ≢ catalog_name) × HasTableNumbers row

-- a table has a column at each place below a count
abbrev pub HasColumns : CatalogRows → List ℕ → ℕ → Type 0
HasColumns rows name count = (place : ℕ) → place < count
    → (column : Cells) × (rows (column_key name place) ≡ Some column)

-- exactly one column of a table is the primary key's, at a place below a count
abbrev pub HasOneKey : CatalogRows → List ℕ → ℕ → Type 0
HasOneKey rows name count = (place : ℕ) × (place < count) × IsKeyColumn rows name place
    × ((other : ℕ) → IsKeyColumn rows name other → other ≡ place)

-- ---- the row of a column

-- a column's flags, length and format are lawful
abbrev pub HasColumnNumbers : Cells → Type 0
HasColumnNumbers row = (said_a row ≤ 1000)
    × ((said_b row ≡ 0) ⊎ (said_b row ≡ 1) ⊎ (said_b row ≡ 3))
    × (1 ≤ said_c row) × (said_c row < 2 ^ 16) × ((said_c row ≡ 1) ⊎ (said_b row ≡ 0))

-- the row of a column at a place is lawful by itself
abbrev pub ColumnSpelled : ℕ → Cells → Type 0
ColumnSpelled place row = IsSpelled row × (slice_index_or row 1 Null ≡ Text (said_name row))
    × (said_d row ≡ place) × IsName (said_name row) × HasColumnNumbers row

-- the column of a row at a place has another name than that at another place, and did not come
-- before an earlier one
abbrev pub ColumnAllows : ℕ → Cells → ℕ → Cells → Type 0
ColumnAllows place row at column = (said_name column ≡ said_name row → at ≡ place)
    × (at ≤ place → said_c column ≤ said_c row)

-- a column at another place than this one is not the primary key's
abbrev pub IsKeyAt : ℕ → ℕ → Cells → Type 0
IsKeyAt place at column = said_b column ≡ 3 → at ≡ place

-- if the key of a row is that of a table's column, then the column of that key has a property
abbrev pub RowAllows : (ℕ → Cells → Type 0) → CatalogRows → List ℕ → Cells → Type 0
RowAllows P rows table row = (at : ℕ) (column : Cells) → row_key row ≡ column_key table at
    → rows (column_key table at) ≡ Some column → P at column

-- the columns of a table whose keys these rows have have a property
abbrev pub EachAllows : (ℕ → Cells → Type 0) → CatalogRows → List ℕ → List Cells → Type 0
EachAllows P rows table [] = Unit {0}
EachAllows P rows table (row ∷ more) = RowAllows P rows table row × EachAllows P rows table more

-- ---- the row of an index

-- the root of an index is a page, and not page 0; its last two numbers are 0
abbrev pub HasIndexNumbers : Cells → Type 0
HasIndexNumbers row = (1 ≤ said_a row) × (said_a row < 2 ^ 32)
    × (said_c row ≡ 0) × (said_d row ≡ 0)

-- the row of an index is lawful by itself
abbrev pub IndexSpelled : List ℕ → Cells → Type 0
IndexSpelled name row = IsSpelled row × (slice_index_or row 1 Null ≡ Text (said_name row))
    × IsName name × HasIndexNumbers row
