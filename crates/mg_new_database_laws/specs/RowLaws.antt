-- Which rows the records of a new database show: those of its catalog, and none of KV.
use Rattle.std.proofs.Common.{◌≡◌, ◌⊎◌, inl, inr, refl, ℕ, zero, suc, Bool, true, [], ◌∷◌, Option, Some}
use Rattle.mg_base.specs.declared.numbers.RecId.{RecId}
use Rattle.mg_value.specs.declared.value.Value.{Value}
use Rattle.mg_model.specs.declared.table.Table.{Table}
use Rattle.mg_model.specs.Catalog.{column_key, table_key}
use Rattle.mg_model.specs.NewCatalogLaws.{catalog_cases, catalog_rows}
use Rattle.mg_model.specs.NewDatabase.{kv_name}
use Rattle.mg_image.specs.Form.{Row}
use Rattle.mg_image.specs.Held.{AreRows, Shows}
use Rattle.mg_image.specs.NewDatabase.{key_row, table_row, value_row}
use Rattle.mg_image.specs.RecordRules.{Facts}
use Rattle.mg_image.specs.Records.{Cells, key_of, shown}
use Rattle.mg_new_database_laws.specs.NewDatabase.{Bodies, catalog_entries, catalog_slot, new_reading, system_entry}
use Rattle.mg_new_database_laws.specs.RecordLaws.{IsNewImage, by_place, cat, catalog_of}

abbrev shown_row : Row → Option Row
shown_row row = Some row

-- A record that shows a row is one of three of the catalog.
pub data Showing (p : RecId) (table : Table) (row : Row) : Type 0 where
  of_table : p ≡ catalog_slot 0 → table ≡ cat → row ≡ table_row → Showing p table row
  of_key : p ≡ catalog_slot 2 → table ≡ cat → row ≡ key_row → Showing p table row
  of_value : p ≡ catalog_slot 4 → table ≡ cat → row ≡ value_row → Showing p table row

module _ (b : Bodies) (f : Facts) (h : Cells) (new : IsNewImage b f h) (committed : ℕ → Bool)
    (system : committed 0 ≡ true) where
  one_row : (a c : Row) → shown_row a ≡ Some c → c ≡ a
  one_row a c e = cc

  pub shows_one : (p : RecId) (table : Table) (row : Row) → Shows f committed (new_reading b) p table row
      → Showing p table row
  shows_one = by_place b (λ p. (table : Table) (row : Row) → Shows f committed (new_reading b) p table row
      → Showing p table row) (λ slot table row shows. here slot table row (catalog_of b f h new slot table shows.of_table)
      shows.row_shown)
      (λ p other none table row shows. absurd (nothing row (rw none at shows.row_shown)))
    where
      nothing : (row : Row) → shown committed [] ≡ Some row → ⊥
      nothing row e = absurd cc

      here : (slot : ℕ) (table : Table) (row : Row) → table ≡ cat
          → shown committed (catalog_entries b slot) ≡ Some row → Showing (catalog_slot slot) table row
      here zero table row of is = of_table refl of (one_row table_row row (rw system at is))
      here (suc zero) table row of is = absurd cc
      here (suc (suc zero)) table row of is = of_key refl of (one_row key_row row (rw system at is))
      here (suc (suc (suc zero))) table row of is = absurd cc
      here (suc (suc (suc (suc zero)))) table row of is = of_value refl of (one_row value_row row (rw system at is))
      here (suc (suc (suc (suc (suc slot))))) table row of is = absurd cc

  -- and each of them shows its row
  shown_at : (slot n : ℕ) (body : _) (row : Row) → catalog_entries b slot ≡ system_entry n body row ∷ []
      → Shows f committed (new_reading b) (catalog_slot slot) cat row
  shown_at slot n body row is = record { of_table = new.tables 4; row_shown = rw (is, system) refl }

  pub shows_table : Shows f committed (new_reading b) (catalog_slot 0) cat table_row
  shows_table = shown_at 0 1 b.table table_row refl

  pub shows_key : Shows f committed (new_reading b) (catalog_slot 2) cat key_row
  shows_key = shown_at 2 3 b.key key_row refl

  pub shows_value : Shows f committed (new_reading b) (catalog_slot 4) cat value_row
  shows_value = shown_at 4 5 b.value value_row refl

  -- so the catalog's rows are shown
  pub new_catalog_rows : AreRows f committed (new_reading b) cat catalog_rows
  new_catalog_rows = record {
    there = λ p row shows. there p cat row (shows_one p cat row shows);
    whole = λ key row is. whole key row (catalog_cases key row is);
  }
    where
      at_row : (row is_ : Row) → row ≡ is_ → catalog_rows (key_of cat is_) ≡ Some is_
          → catalog_rows (key_of cat row) ≡ Some row
      at_row row is_ e there = rw e there

      there : (p : RecId) (table : Table) (row : Row) → Showing p table row
          → catalog_rows (key_of cat row) ≡ Some row
      there p table row (of_table at of is) = at_row row table_row is refl
      there p table row (of_key at of is) = at_row row key_row is refl
      there p table row (of_value at of is) = at_row row value_row is refl

      whole : (key : Value) (row : Row)
          → ((key ≡ column_key kv_name 0) × (row ≡ key_row))
          ⊎ (((key ≡ column_key kv_name 1) × (row ≡ value_row))
          ⊎ ((key ≡ table_key kv_name) × (row ≡ table_row)))
          → (p : RecId) × Shows f committed (new_reading b) p cat row × (key_of cat row ≡ key)
      whole key row (inl e) = rw (e.0, e.1) (catalog_slot 2, shows_key, refl)
      whole key row (inr (inl e)) = rw (e.0, e.1) (catalog_slot 4, shows_value, refl)
      whole key row (inr (inr e)) = rw (e.0, e.1) (catalog_slot 0, shows_table, refl)
