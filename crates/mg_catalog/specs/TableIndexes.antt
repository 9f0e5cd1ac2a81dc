-- The indexes of a table, by their names.
use Rattle.std.specs.Prelude.{ℕ, Bool, false, List, [], ◌∷◌, Option, None, Some, if◌then◌else◌}
use Rattle.mg_model.specs.declared.table.Index.{Index}
use Rattle.mg_model.specs.Changes.{Cells, same_name}
use Rattle.mg_model.specs.Catalog.{CatalogRows, index_key, said_a, said_b, said_name}

-- the index that a row says
abbrev pub index_said : List ℕ → Cells → Index
index_said name row =
    record { name = name; column = said_b row; root = record { 0 = said_a row } }

-- whether there is a row, which says an index of a table
abbrev pub is_index_of : List ℕ → Option Cells → Bool
is_index_of table None = false
is_index_of table (Some row) = same_name (said_name row) table

-- indexes with the one that a row says in front, if there is a row and it is of the table
abbrev pub with_index : List ℕ → List ℕ → Option Cells → List Index → List Index
with_index table name None indexes = indexes
with_index table name (Some row) indexes =
    if same_name (said_name row) table then index_said name row ∷ indexes else indexes

-- those of a table among the indexes of these names
abbrev pub indexes_among : CatalogRows → List ℕ → List (List ℕ) → List Index
indexes_among rows table [] = []
indexes_among rows table (name ∷ names) =
    with_index table name (rows (index_key name)) (indexes_among rows table names)
