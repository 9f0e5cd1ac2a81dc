-- The database that a new file holds: the table KV (K BIGINT PRIMARY KEY, V BIGINT), empty.
use Rattle.std.specs.Prelude.{ℕ, List, [], ◌∷◌, codes}
use Rattle.mg_value.specs.declared.value.Value.TheVariants.{Null, Text}
use Rattle.mg_model.specs.declared.opening.Opening.{Opening}
use Rattle.mg_model.specs.declared.opening.PlacedRow.{PlacedRow}
use Rattle.mg_model.specs.Changes.{Cells}
use Rattle.mg_model.specs.Catalog.{catalog_name, table_key, column_key}
use Rattle.mg_model.specs.CatalogRules.{catalog_row}

-- the name of its table
abbrev pub kv_name : List ℕ
kv_name = codes "KV"

-- the rows of the catalog, with the first pointer page of KV
abbrev pub new_catalog : ℕ → List Cells
new_catalog pointer =
    catalog_row (column_key kv_name 0) (Text (codes "K")) 0 3 1 0
    ∷ catalog_row (column_key kv_name 1) (Text (codes "V")) 0 0 1 1
    ∷ catalog_row (table_key kv_name) Null pointer 2 0 0
    ∷ []

abbrev pub in_catalog : Cells → PlacedRow
in_catalog row = record { table = catalog_name; row = row }

-- what a history of a new database begins with, with so many free pages; in it page numbers read as 0
abbrev pub new_opening : ℕ → ℕ → Opening
new_opening limit free = record {
  rows = places (new_catalog 0);
  limbo = [];
  states = [];
  next = record { 0 = 1 };
  limit = record { 0 = limit };
  free = free;
}
  where
    places : List Cells → List PlacedRow
    places [] = []
    places (row ∷ rows) = in_catalog row ∷ places rows
