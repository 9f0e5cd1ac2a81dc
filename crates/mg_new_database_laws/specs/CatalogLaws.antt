-- The rows of a new catalog name KV alone, which fits pages of each size.
use Rattle.std.proofs.Common.{◌≡◌, inl, inr, ◌⊎◌, ◌≤◌, ◌/◌, refl, sym, arith, lit≤, ℕ, List, [], ◌∷◌, Some}
use Rattle.mg_catalog.specs.KeyLaws.{index_not_column, table_key_equal, table_not_column, table_not_index}
use Rattle.mg_image.specs.Catalog.{FitsPages}
use Rattle.mg_image.specs.Form.{Row}
use Rattle.mg_model.specs.Catalog.{column_key, index_key, table_key}
use Rattle.mg_model.specs.CatalogRules.{AreIndexes, AreTables, IsTable}
use Rattle.mg_model.specs.NewCatalogLaws.{catalog_cases, catalog_lawful, catalog_rows, key_row, table_row, value_row}
use Rattle.mg_model.specs.NewDatabase.{kv_name}
use Rattle.mg_new_database_laws.specs.NewDatabase.{kv_table}

-- a table's row is that of KV
table_named : (name : List ℕ) (row : Row) → catalog_rows (table_key name) ≡ Some row → kv_name ≡ name
table_named name row is = at (catalog_cases (table_key name) row is)
  where
    at : ((table_key name ≡ column_key kv_name 0) × (row ≡ key_row))
        ⊎ (((table_key name ≡ column_key kv_name 1) × (row ≡ value_row))
        ⊎ ((table_key name ≡ table_key kv_name) × (row ≡ table_row))) → kv_name ≡ name
    at (inl here) = absurd (table_not_column name kv_name 0 here.0)
    at (inr (inl here)) = absurd (table_not_column name kv_name 1 here.0)
    at (inr (inr here)) = sym (table_key_equal name kv_name here.0)

-- there is no index's row
no_index_row : (name : List ℕ) (row : Row) → catalog_rows (index_key name) ≡ Some row → ⊥
no_index_row name row is = at (catalog_cases (index_key name) row is)
  where
    at : ((index_key name ≡ column_key kv_name 0) × (row ≡ key_row))
        ⊎ (((index_key name ≡ column_key kv_name 1) × (row ≡ value_row))
        ⊎ ((index_key name ≡ table_key kv_name) × (row ≡ table_row))) → ⊥
    at (inl here) = index_not_column name kv_name 0 here.0
    at (inr (inl here)) = index_not_column name kv_name 1 here.0
    at (inr (inr here)) = table_not_index kv_name name (sym here.0)

no_indexes : AreIndexes catalog_rows kv_name []
no_indexes = record {
  each = tt;
  whole = λ name row is of_table. absurd (no_index_row name row is);
  ascending = tt;
}

pub kv_is_table : IsTable catalog_rows kv_table
kv_is_table = record {
  row = table_row;
  there = refl;
  shape = refl;
  pointer = refl;
  others = [];
  are_others = no_indexes;
  indexes = refl;
}

pub catalog_names_kv : AreTables catalog_rows (kv_table ∷ [])
catalog_names_kv = record {
  lawful = catalog_lawful;
  each = (kv_is_table, tt);
  whole = λ name row is. inl (table_named name row is);
  ascending = tt;
}

-- a row of KV takes 17 bytes, a key of it 9 at most
pub kv_fits : (size : ℕ) → 1024 ≤ size → FitsPages size kv_table
kv_fits size least = record {
  rows = within 17 (size / 2) (lit≤ tt) (omega (arith, least));
  keys = within 9 (size / 8) (lit≤ tt) (omega (arith, least));
  indexes = tt;
}
  where
    within : (n most : ℕ) → n ≤ 17 → 17 ≤ most → n ≤ most
    within n most few some = omega (arith, few, some)
