-- Which rows of the catalog a transaction takes back.
use Rattle.std.specs.Prelude.{◌≡◌, ℕ, true, false, List}
use Rattle.mg_value.specs.declared.value.Value.{Value}
use Rattle.mg_model.specs.declared.change.Change.{Change}
use Rattle.mg_model.specs.Catalog.{catalog_name, column_key, index_key, table_key}
use Rattle.mg_model.specs.Changes.{has_change}
use Rattle.mg_undo.specs.Whole.{is_one_of}

-- Of the keys of the catalog that changes are at these go: the key of a column where that of its table does, and none is of
-- an index.
pub record KeysGoWhole (changes : List Change) (keys : List Value) : Type 0 where
  pub columns : (name : List ℕ) (place : ℕ) → has_change changes catalog_name (column_key name place) ≡ true
      → is_one_of keys (column_key name place) ≡ is_one_of keys (table_key name)
  pub indexes : (name : List ℕ) → has_change changes catalog_name (index_key name) ≡ false
