-- What the key of a lawful row says of the row.
use Rattle.std.proofs.Common.{◌≡◌, inl, inr, sym, subst, ℕ, List, Some}
use Rattle.mg_model.specs.Changes.{Cells}
use Rattle.mg_model.specs.Catalog.{CatalogRows, column_key, index_key, table_key}
use Rattle.mg_model.specs.CatalogRules.{IsCatalog, IsCatalogRow, IsColumnRow, IsIndexRow, IsTableRow}
use Rattle.mg_catalog.specs.KeyLaws.{column_key_equal, index_key_equal, index_not_column, table_key_equal, table_not_column, table_not_index}

-- a lawful row under the key of a table is a lawful row of that table
pub table_row_of : (rows : CatalogRows) (name : List ℕ) (row : Cells)
    → IsCatalogRow rows (table_key name) row → IsTableRow rows name row
table_row_of rows name row (inl (other, is, lawful)) =
    let P : List ℕ → Type 0 = λ n. IsTableRow rows n row in
    subst P (sym (table_key_equal name other is)) lawful
table_row_of rows name row (inr (inl (table, place, is, lawful))) =
    absurd (table_not_column name table place is)
table_row_of rows name row (inr (inr (other, is, lawful))) = absurd (table_not_index name other is)

-- a lawful row under the key of a column is a lawful row of that column
pub column_row_of : (rows : CatalogRows) (table : List ℕ) (place : ℕ) (row : Cells)
    → IsCatalogRow rows (column_key table place) row → IsColumnRow rows table place row
column_row_of rows table place row (inl (name, is, lawful)) =
    absurd (table_not_column name table place (sym is))
column_row_of rows table place row (inr (inl (other, n, is, lawful))) =
    moved (column_key_equal table other place n is)
  where
    moved : (table ≡ other) × (place ≡ n) → IsColumnRow rows table place row
    moved same =
        let P : List ℕ → Type 0 = λ t. IsColumnRow rows t place row in
        let Q : ℕ → Type 0 = λ p. IsColumnRow rows other p row in
        subst P (sym same.0) (subst Q (sym same.1) lawful)
column_row_of rows table place row (inr (inr (name, is, lawful))) =
    absurd (index_not_column name table place (sym is))

-- a lawful row under the key of an index is a lawful row of that index
pub index_row_of : (rows : CatalogRows) (name : List ℕ) (row : Cells)
    → IsCatalogRow rows (index_key name) row → IsIndexRow rows name row
index_row_of rows name row (inl (other, is, lawful)) =
    absurd (table_not_index other name (sym is))
index_row_of rows name row (inr (inl (table, place, is, lawful))) =
    absurd (index_not_column name table place is)
index_row_of rows name row (inr (inr (other, is, lawful))) =
    let P : List ℕ → Type 0 = λ n. IsIndexRow rows n row in
    subst P (sym (index_key_equal name other is)) lawful

pub table_lawful : (rows : CatalogRows) → IsCatalog rows → (name : List ℕ) (row : Cells)
    → rows (table_key name) ≡ Some row → IsTableRow rows name row
table_lawful rows catalog name row is = table_row_of rows name row (catalog (table_key name) row is)

pub column_lawful : (rows : CatalogRows) → IsCatalog rows → (table : List ℕ) (place : ℕ)
    (row : Cells) → rows (column_key table place) ≡ Some row → IsColumnRow rows table place row
column_lawful rows catalog table place row is =
    column_row_of rows table place row (catalog (column_key table place) row is)

pub index_lawful : (rows : CatalogRows) → IsCatalog rows → (name : List ℕ) (row : Cells)
    → rows (index_key name) ≡ Some row → IsIndexRow rows name row
index_lawful rows catalog name row is = index_row_of rows name row (catalog (index_key name) row is)
