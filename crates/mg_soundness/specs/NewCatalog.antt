-- What the program makes of the catalog of a new database, and that it is the only one.
use Rattle.std.specs.Prelude.{◌≡◌, ◌≤◌, ◌↔◌, ℕ, List, ◌++◌, length}
use Rattle.mg_image.specs.Form.{Row}
use Rattle.mg_image.specs.NewDatabase.{IsCatalogBody, IsNewCatalogPage, key_row, record_cells, table_row, value_row}
use Rattle.mg_reading.specs.declared.rows.RowCoding.{RowCoding}
use Rattle.mg_reading.specs.Codings.{coding_of}

-- A body is the only one that codes a row of the catalog. It is short enough for its page.
pub record IsOnlyBody (coding : RowCoding) (row : Row) (body : List ℕ) : Type 0 where
  pub codes : IsCatalogBody (coding_of coding) row body
  pub only : (other : List ℕ) → IsCatalogBody (coding_of coding) row other → other ≡ body
  pub short : length body ≤ 216

-- The cells of the catalog's data page.
pub record AreCatalogCells (coding : RowCoding) (cells : List (List ℕ)) : Type 0 where
  pub table : List ℕ
  pub key : List ℕ
  pub value : List ℕ
  pub of_table : IsOnlyBody coding table_row table
  pub of_key : IsOnlyBody coding key_row key
  pub of_value : IsOnlyBody coding value_row value
  pub cells_are : cells ≡ record_cells 0 table ++ record_cells 2 key ++ record_cells 4 value

-- a page is the only one that is the catalog's data page
abbrev pub IsOnlyCatalogPage : RowCoding → ℕ → List ℕ → Type 0
IsOnlyCatalogPage coding size page =
    (other : List ℕ) → IsNewCatalogPage (coding_of coding) size other ↔ (other ≡ page)
