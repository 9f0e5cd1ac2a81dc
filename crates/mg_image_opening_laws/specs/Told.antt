-- What the rows of a catalog say does not depend on the numbers of pages in them.
use Rattle.std.proofs.Common.{◌≡◌, ap, sym, ◌∙◌, refl, ◌+◌, ℕ, zero, suc, Bool, true, false, List, Option, None, Some}
use Rattle.std.specs.Prelude.{if◌then◌else◌, min}
use Rattle.mg_value.specs.declared.shape.Shape.{Shape}
use Rattle.mg_value.specs.declared.shape.TheConstants.{MOST_COLUMNS}
use Rattle.mg_value.specs.declared.value.Value.{Value}
use Rattle.mg_value.specs.declared.value.Value.TheVariants.{Null, Text}
use Rattle.mg_model.specs.Catalog.{CatalogRows, catalog_name, catalog_shape, column_key, columns_said, is_key_row, key_said, said_a, said_b, said_c, said_d, said_name, shape_in, shape_said, table_key, told_cells, told_if_there, with_column}
use Rattle.mg_model.specs.CatalogRules.{IsCatalog, IsColumnRow, IsTableRow, catalog_row}
use Rattle.mg_model.specs.Changes.{Cells, same_name}
use Rattle.mg_catalog.specs.LawfulLaws.{column_lawful, table_lawful}

-- the row of a column has no number of a page
column_told : (table : List ℕ) (place : ℕ) (name : Value) (a b c d : ℕ)
    → told_cells (catalog_row (column_key table place) name a b c d)
    ≡ catalog_row (column_key table place) name a b c d
column_told table place name a b c d = refl

-- the row of a table says as many columns
table_told : (table : List ℕ) (name : Value) (a b c d : ℕ)
    → said_b (told_cells (catalog_row (table_key table) name a b c d)) ≡ b
table_told table name a b c d = refl

-- the shape of so many columns
abbrev shape_of : CatalogRows → List ℕ → ℕ → Option Shape
shape_of rows name count = Some (record {
  columns = columns_said rows name 0 count;
  key = key_said rows name 0 count;
})

module _ (told stored : CatalogRows) (lawful : IsCatalog stored)
    (is_told : (key : Value) → told key ≡ told_if_there (stored key)) where
  column_same : (table : List ℕ) (place : ℕ)
      → told (column_key table place) ≡ stored (column_key table place)
  column_same table place = is_told (column_key table place)
      ∙ at (stored (column_key table place)) refl
    where
      at : (row : Option Cells) → stored (column_key table place) ≡ row
          → told_if_there row ≡ row
      at None is = refl
      at (Some row) is =
          let it : IsColumnRow stored table place row = column_lawful stored lawful table place row is in
          let cells : Cells = catalog_row (column_key table place) (Text (said_name row))
          (said_a row) (said_b row) (said_c row) place in
          ap (λ (x : Cells). Some (told_cells x)) it.spelled
          ∙ (ap (λ (x : Cells). Some x) (column_told table place (Text (said_name row))
          (said_a row) (said_b row) (said_c row) place) ∙ ap (λ (x : Cells). Some x) (sym it.spelled))

  columns_same : (table : List ℕ) (place count : ℕ)
      → columns_said told table place count ≡ columns_said stored table place count
  columns_same table place zero = refl
  columns_same table place (suc count) =
      ap (λ (x : Option Cells). with_column x (columns_said told table (place + 1) count))
      (column_same table place)
      ∙ ap (with_column (stored (column_key table place))) (columns_same table (place + 1) count)

  key_same : (table : List ℕ) (place count : ℕ)
      → key_said told table place count ≡ key_said stored table place count
  key_same table place zero = refl
  key_same table place (suc count) =
      ap (λ (x : Option Cells). if is_key_row x then place else key_said told table (place + 1) count)
      (column_same table place)
      ∙ ap (λ (n : ℕ). if is_key_row (stored (column_key table place)) then place else n)
      (key_same table (place + 1) count)

  said_same : (name : List ℕ) (row : Option Cells) → stored (table_key name) ≡ row
      → shape_said told name (told_if_there row) ≡ shape_said stored name row
  said_same name None is = refl
  said_same name (Some row) is =
      let it : IsTableRow stored name row = table_lawful stored lawful name row is in
      let count : said_b (told_cells row) ≡ said_b row = ap (λ (x : Cells). said_b (told_cells x)) it.spelled
      ∙ table_told name Null (said_a row) (said_b row) (said_c row) (said_d row) in
      shape_by (min (said_b (told_cells row)) MOST_COLUMNS) (min (said_b row) MOST_COLUMNS)
      (ap (λ (n : ℕ). min n MOST_COLUMNS) count)
    where
      shape_by : (m n : ℕ) → m ≡ n → shape_of told name m ≡ shape_of stored name n
      shape_by m n same = λ i. Some (record {
        columns = (ap (columns_said told name 0) same ∙ columns_same name 0 n) i;
        key = (ap (key_said told name 0) same ∙ key_same name 0 n) i;
      })

  -- so told rows say the same shapes
  pub shape_told : (name : List ℕ) → shape_in told name ≡ shape_in stored name
  shape_told name = at (same_name name catalog_name)
    where
      at : (b : Bool)
          → (if b then Some catalog_shape else shape_said told name (told (table_key name)))
          ≡ (if b then Some catalog_shape else shape_said stored name (stored (table_key name)))
      at true = refl
      at false = ap (shape_said told name) (is_told (table_key name))
          ∙ said_same name (stored (table_key name)) refl
