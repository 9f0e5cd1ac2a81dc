-- The rows that come onto the pages are those of the history's entries, but for the number of the first pointer page,
-- which a history reads as 0; and they come under the same keys.
use Rattle.std.proofs.Common.{◌≡◌, ℕ, List, map, refl}
use Rattle.mg_image.specs.Form.{Row}
use Rattle.mg_model.specs.Catalog.{catalog_shape, key_of}
use Rattle.mg_records.specs.Writing.{rows_made}
use Rattle.mg_value.specs.declared.shape.Shape.{Shape}
use Rattle.mg_value.specs.declared.value.Value.{Value}
use Rattle.mg_table_batch.specs.Filling.{rows_at}

-- the keys of rows of the catalog
abbrev pub keys_of_rows : List Row → List Value
keys_of_rows rows = map (key_of catalog_shape) rows

pub record RowsAreEntries (name : List ℕ) (shape : Shape) (page : ℕ) : Type 0 where
  pub rows : rows_at name shape 0 ≡ rows_made name shape
  pub keys : keys_of_rows (rows_at name shape page) ≡ keys_of_rows (rows_made name shape)

pub rows_are_entries : (name : List ℕ) (shape : Shape) (page : ℕ) → RowsAreEntries name shape page
rows_are_entries name shape page = record { rows = refl; keys = refl }
