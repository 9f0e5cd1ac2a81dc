-- What the catalog says: which tables there are, and of which shape. It is a table like others,
-- and a row of it says that there is a table, a column or an index:
--
-- | row of   | K                    | NAME        | A                | B                   | C            | D             |
-- |----------|----------------------|-------------|------------------|---------------------|--------------|---------------|
-- | a table  | T, name              | NULL        | pointer page     | number of columns   | primary root | other indexes |
-- | a column | C, table, ., 2 digits | column name | 0, m of VARCHAR | 1 not null, 2 key   | since        | place         |
-- | an index | I, name              | table name  | root             | place of its column | 0            | 0             |
use Rattle.std.specs.Prelude.{ℕ, zero, suc, ◌+◌, ◌/◌, ◌%◌, pos, negsuc, Bool, true, false, ◌==◌, nat_lt, nat_le, min, List, [], ◌∷◌, ◌++◌, codes, Option, Some, None, slice_index_or, if◌then◌else◌}
use Rattle.std.proofs.Common.{get_or}
use Rattle.std.proofs.Math.ListN.{set}
use Rattle.mg_base.specs.Fields.{byte}
use Rattle.mg_value.specs.declared.value.Value.{Value}
use Rattle.mg_value.specs.declared.value.Value.TheVariants.{Null, Int, Text}
use Rattle.mg_value.specs.declared.shape.Kind.{Kind}
use Rattle.mg_value.specs.declared.shape.Kind.TheVariants as kinds
use Rattle.mg_value.specs.declared.shape.Column.{Column}
use Rattle.mg_value.specs.declared.shape.Shape.{Shape}
use Rattle.mg_value.specs.Values.{bytes_of}
use Rattle.mg_value.specs.declared.shape.TheConstants.{MOST_COLUMNS}
use Rattle.mg_model.specs.Changes.{Cells, same_name}

-- the rows of a catalog, by their keys
abbrev pub CatalogRows : Type 0
CatalogRows = Value → Option Cells

-- the name of the catalog
abbrev pub catalog_name : List ℕ
catalog_name = codes "MG$CATALOG"

-- the key of a table's row
abbrev pub table_key : List ℕ → Value
table_key name = Text (codes "T" ++ name)

-- a place in two decimal digits
abbrev pub two_digits : ℕ → List ℕ
two_digits place = (48 + place / 10) ∷ (48 + place % 10) ∷ []

-- the key of the row of a table's column
abbrev pub column_key : List ℕ → ℕ → Value
column_key table place = Text (codes "C" ++ table ++ codes "." ++ two_digits place)

-- the key of an index's row
abbrev pub index_key : List ℕ → Value
index_key name = Text (codes "I" ++ name)

-- a value as a number, 0 where it is none
abbrev pub natural_of : Value → ℕ
natural_of Null = 0
natural_of (Int (pos n)) = n
natural_of (Int (negsuc n)) = 0
natural_of (Text text) = 0

-- a value as a text, empty where it is none
abbrev pub text_of : Value → List ℕ
text_of Null = []
text_of (Int number) = []
text_of (Text text) = text

-- what a catalog row has in its columns
abbrev pub said_name : Cells → List ℕ
said_name row = text_of (slice_index_or row 1 Null)

abbrev pub said_a : Cells → ℕ
said_a row = natural_of (slice_index_or row 2 Null)

abbrev pub said_b : Cells → ℕ
said_b row = natural_of (slice_index_or row 3 Null)

abbrev pub said_c : Cells → ℕ
said_c row = natural_of (slice_index_or row 4 Null)

abbrev pub said_d : Cells → ℕ
said_d row = natural_of (slice_index_or row 5 Null)

-- the kind of a column: 0 for BIGINT, else the length of a VARCHAR
abbrev pub kind_said : ℕ → Kind
kind_said most = if most == 0 then kinds.Int else kinds.Text most

-- the column that a row says
abbrev pub column_said : Cells → Column
column_said row = record {
  name = said_name row;
  kind = kind_said (said_a row);
  not_null = nat_lt 0 (said_b row);
  since = said_c row;
}

-- whether a row says the primary key's column
abbrev pub says_key : Cells → Bool
says_key row = nat_le 2 (said_b row)

-- the columns with the one that a row says in front, if there is such a row
abbrev pub with_column : Option Cells → List Column → List Column
with_column None columns = columns
with_column (Some row) columns = column_said row ∷ columns

-- the columns of a table from a place on, so many of them
abbrev pub columns_said : CatalogRows → List ℕ → ℕ → ℕ → List Column
columns_said rows table place zero = []
columns_said rows table place (suc count) =
    with_column (rows (column_key table place)) (columns_said rows table (place + 1) count)

-- whether there is a row, which says the primary key's column
abbrev pub is_key_row : Option Cells → Bool
is_key_row None = false
is_key_row (Some row) = says_key row

-- the place of the primary key's column from a place on, 0 where there is none
abbrev pub key_said : CatalogRows → List ℕ → ℕ → ℕ → ℕ
key_said rows table place zero = 0
key_said rows table place (suc count) =
    if is_key_row (rows (column_key table place)) then place
    else key_said rows table (place + 1) count

-- a column of the catalog itself
abbrev pub catalog_column : List ℕ → Kind → Bool → Column
catalog_column name kind not_null =
    record { name = name; kind = kind; not_null = not_null; since = 1 }

-- the shape of the catalog
abbrev pub catalog_shape : Shape
catalog_shape = record {
  columns = catalog_column (codes "K") (kinds.Text 40) true
      ∷ catalog_column (codes "NAME") (kinds.Text 31) false
      ∷ catalog_column (codes "A") kinds.Int false
      ∷ catalog_column (codes "B") kinds.Int false
      ∷ catalog_column (codes "C") kinds.Int false
      ∷ catalog_column (codes "D") kinds.Int false
      ∷ [];
  key = 0;
}

-- how many columns a table's row says; a table has at most 64
abbrev pub count_said : Cells → ℕ
count_said row = min (said_b row) MOST_COLUMNS

-- the shape that a table's row says, with the rows of its columns
abbrev pub shape_said : CatalogRows → List ℕ → Option Cells → Option Shape
shape_said rows name None = None
shape_said rows name (Some row) = Some (record {
  columns = columns_said rows name 0 (count_said row);
  key = key_said rows name 0 (count_said row);
})

-- the shape of a table, none where there is no such table
abbrev pub shape_in : CatalogRows → List ℕ → Option Shape
shape_in rows name =
    if same_name name catalog_name then Some catalog_shape
    else shape_said rows name (rows (table_key name))

-- the value by which a row of a shape is named; NULL, which is no key, where it has none there
abbrev pub key_of : Shape → Cells → Value
key_of shape row = slice_index_or row shape.key Null

-- the key of a row of a shape, NULL where there is no shape
abbrev pub key_by : Option Shape → Cells → Value
key_by None row = Null
key_by (Some shape) row = key_of shape row

-- the key of a row that is made in a table
abbrev pub key_in : CatalogRows → List ℕ → Cells → Value
key_in rows table row = key_by (shape_in rows table) row

-- ---- as a history has them

-- a row of the catalog that begins with this letter, with each page number in it read as 0: A and C
-- of a table's row, A of an index's row
abbrev pub without_pages : ℕ → Cells → Cells
without_pages letter row =
    if letter == 84 then set (set row 2 (Int (pos 0))) 4 (Int (pos 0))
    else (if letter == 73 then set row 2 (Int (pos 0)) else row)

-- a row of the catalog as a history has it: page numbers do not count
abbrev pub told_cells : Cells → Cells
told_cells row = without_pages (byte (bytes_of (get_or row 0 Null)) 0) row

-- the same of a row that may not be there
abbrev pub told_if_there : Option Cells → Option Cells
told_if_there None = None
told_if_there (Some row) = Some (told_cells row)
