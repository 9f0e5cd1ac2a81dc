-- The data pages of a new database.
use Rattle.std.specs.Prelude.{◌≡◌, ℕ, true, false, List, [], ◌∷◌, None}
use Rattle.mg_base.specs.Geometry.{is_page_size}
use Rattle.mg_base.specs.Image.{Image, page_at}
use Rattle.mg_format.specs.Format.{IsMade}
use Rattle.mg_image.specs.Sound.{HasTablePages, IsTableData}
use Rattle.mg_image.specs.Tables.{Stand}
use Rattle.mg_model.specs.declared.table.Table.{Table}
use Rattle.mg_value.specs.declared.shape.Shape.{Shape}
use Rattle.mg_slots.specs.DataPage.{cell_of}

-- The data page of KV in a new database is one of that table, and has no cell, whatever the page size.
pub record IsEmptyData (size : ℕ) (image : Image) : Type 0 where
  pub page : IsTableData false size (page_at size image) 5 0 6
  pub none : (slot : ℕ) → cell_of (page_at size image 6) slot ≡ None

abbrev pub NewAreEmpty : Type 0
NewAreEmpty = (size : ℕ) (image : Image) → is_page_size size ≡ true → IsMade size image → IsEmptyData size image

-- The data page of the catalog is one of the catalog, and each of its cells is a version or an anchor.
abbrev pub NewHaveCatalog : Type 0
NewHaveCatalog = (size : ℕ) (image : Image) → is_page_size size ≡ true → IsMade size image
    → IsTableData false size (page_at size image) 3 0 4

-- ---- tables

-- a table that has no index and begins on a pointer page
abbrev pub table_on : List ℕ → Shape → ℕ → Table
table_on name shape pointer = record {
  name = name;
  shape = shape;
  pointer = record { 0 = pointer };
  indexes = [];
}

-- it stands on this page and one data page
abbrev pub stand_on : List ℕ → Shape → ℕ → ℕ → Stand
stand_on name shape pointer entry = record {
  table = table_on name shape pointer;
  pointers = pointer ∷ [];
  data_pages = entry ∷ [];
  trees = [];
}

-- The catalog and KV stand so, whatever their names and shapes.
abbrev pub NewHaveTables : Type 0
NewHaveTables = (size : ℕ) (image : Image) (name : List ℕ) (shape : Shape) → is_page_size size ≡ true
    → IsMade size image
    → HasTablePages false size (page_at size image) (stand_on name shape 3 4)
    × HasTablePages false size (page_at size image) (stand_on name shape 5 6)
