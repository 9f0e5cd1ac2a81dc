-- The rows of the catalog that say a table.
use Rattle.std.specs.Prelude.{◌≡◌, Some, ℕ, Bool, List, [], ◌∷◌, ◌++◌, ◌+◌, ◌==◌, length, if◌then◌else◌}
use Rattle.mg_value.specs.declared.value.Value.TheVariants.{Null, Text}
use Rattle.mg_value.specs.declared.shape.Column.{Column}
use Rattle.mg_value.specs.declared.shape.Kind.{Kind}
use Rattle.mg_value.specs.declared.shape.Kind.TheVariants as kinds
use Rattle.mg_model.specs.declared.table.Index.{Index}
use Rattle.mg_model.specs.declared.table.Table.{Table}
use Rattle.mg_model.specs.Changes.{Cells, same_name}
use Rattle.mg_model.specs.Catalog.{CatalogRows, column_key, index_key, table_key}
use Rattle.mg_model.specs.CatalogRules.{HasIndex, IsTable, catalog_row}
use Rattle.mg_catalog.specs.ByKey.{row_key}

-- how many bytes a VARCHAR has at most, 0 for BIGINT
abbrev pub length_of : Kind → ℕ
length_of kinds.Int = 0
length_of (kinds.Text most) = most

-- the flags of a column: 3 for the primary key's, 1 for another that is not NULL, else 0
abbrev pub flags_of : Bool → Bool → ℕ
flags_of is_key not_null = if is_key then 3 else if not_null then 1 else 0

-- the row of a column at a place
abbrev pub column_row : List ℕ → ℕ → ℕ → Column → Cells
column_row table key place column = catalog_row (column_key table place) (Text column.name)
    (length_of column.kind) (flags_of (place == key) column.not_null) column.since place

-- the rows of columns from a place on
abbrev pub column_rows : List ℕ → ℕ → ℕ → List Column → List Cells
column_rows table key place [] = []
column_rows table key place (column ∷ columns) =
    column_row table key place column ∷ column_rows table key (place + 1) columns

-- the row of an index
abbrev pub index_row : List ℕ → Index → Cells
index_row table i = catalog_row (index_key i.name) (Text table) i.root.0 i.column 0 0

-- the rows of indexes
abbrev pub index_rows : List ℕ → List Index → List Cells
index_rows table [] = []
index_rows table (i ∷ is) = index_row table i ∷ index_rows table is

-- the root of the primary index, which stands first and has the table's name; 0 for none
abbrev pub primary_root : List ℕ → List Index → ℕ
primary_root table [] = 0
primary_root table (i ∷ is) = if same_name i.name table then i.root.0 else 0

-- the indexes without the primary one
abbrev pub other_indexes : List ℕ → List Index → List Index
other_indexes table [] = []
other_indexes table (i ∷ is) = if same_name i.name table then is else i ∷ is

-- the row of a table
abbrev pub table_row : Table → Cells
table_row t = catalog_row (table_key t.name) Null t.pointer.0 (length t.shape.columns)
    (primary_root t.name t.indexes) (length (other_indexes t.name t.indexes))

-- the rows that say a table, in the order of their kinds: columns, indexes, the table
abbrev pub rows_said : Table → List Cells
rows_said t = column_rows t.name t.shape.key 0 t.shape.columns
    ++ index_rows t.name (other_indexes t.name t.indexes) ++ (table_row t ∷ [])

-- ---- the rows that a table was read from

-- rows give each of these rows at its key
abbrev pub HasEach : CatalogRows → List Cells → Type 0
HasEach rows [] = Unit {0}
HasEach rows (row ∷ more) = (rows (row_key row) ≡ Some row) × HasEach rows more

-- no other index of a table has the table's name
abbrev pub HasOwnName : (rows : CatalogRows) (t : Table) → IsTable rows t → Type 0
HasOwnName rows t is = HasIndex is.others t.name → ⊥
