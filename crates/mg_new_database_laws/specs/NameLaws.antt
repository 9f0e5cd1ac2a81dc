-- The catalog of a new database names KV, whoever else counts as committed, and each version may stand in its table.
use Rattle.std.proofs.Common.{◌≡◌, ◌≤◌, inl, refl, ap, ℕ, Bool, true, List, [], ◌∷◌, Some}
use Rattle.mg_base.specs.declared.numbers.RecId.{RecId}
use Rattle.mg_base.specs.declared.transaction.TxState.TheVariants.{Limbo}
use Rattle.mg_image.specs.Catalog.{CatalogNames, HasNames, HasOwnTables, MayStandIn, committed_with}
use Rattle.mg_image.specs.Form.{Pages, Row}
use Rattle.mg_image.specs.Indexes.{IsFoundIn}
use Rattle.mg_image.specs.RecordRules.{Each, Facts, committed_in, table_in}
use Rattle.mg_image.specs.Records.{Cells, writer}
use Rattle.mg_image.specs.Sound.{IsIndexed}
use Rattle.mg_image.specs.declared.entry.Entry.{Entry}
use Rattle.mg_model.specs.NewCatalogLaws.{catalog_rows}
use Rattle.mg_model.specs.declared.table.Table.{Table}
use Rattle.mg_new_database_laws.specs.CatalogLaws.{catalog_names_kv, kv_fits}
use Rattle.mg_new_database_laws.specs.NewDatabase.{Bodies, catalog_entries, kv_table, new_reading}
use Rattle.mg_new_database_laws.specs.RecordLaws.{IsNewImage, by_place, cat, catalog_of}
use Rattle.mg_new_database_laws.specs.RowLaws.{Showing, new_catalog_rows, of_key, of_table, of_value, shows_one}

module _ (size : ℕ) (least : 1024 ≤ size) (b : Bodies) (f : Facts) (h : Cells) (new : IsNewImage b f h) where
  committed_system : (chosen : ℕ → Bool) → committed_with f chosen 0 ≡ true
  committed_system chosen = let is = new.system in rw is refl

  pub system_in : committed_in f 0 ≡ true
  system_in = let is = new.system in rw is refl

  names : (chosen : ℕ → Bool)
      → CatalogNames size f (committed_with f chosen) (new_reading b) cat (kv_table ∷ [])
  names chosen = record {
    rows = catalog_rows;
    are_rows = new_catalog_rows b f h new (committed_with f chosen) (committed_system chosen);
    are_tables = catalog_names_kv;
    fit = (kv_fits size least, tt);
  }

  pub new_names : HasNames size f (new_reading b) cat (kv_table ∷ [])
  new_names = record {
    named = λ chosen. kv_table ∷ [];
    lawful = names;
    all = names (λ t. true);
    stay = λ chosen more within. (inl (record { name = refl; shape = refl; pointer = refl }), tt);
  }

  each_all : (P : Entry → Type 0) → ((e : Entry) → P e) → (es : List Entry) → Each P es
  each_all P all [] = tt
  each_all P all (e ∷ es) = (all e, each_all P all es)

  pub new_own_tables : HasOwnTables f (new_reading b) cat
  new_own_tables = by_place b (λ p. (table : Table) → table_in f p ≡ Some table
      → Each (MayStandIn f (new_reading b) cat table) (new_reading b p))
      (λ slot table is. each_all (MayStandIn f (new_reading b) cat table)
      (λ e. inl (ap (λ (t : Table). t.name) (catalog_of b f h new slot table is))) (catalog_entries b slot))
      (λ p other none table is. rw none tt)

  -- no table has an index
  found_in_none : (pages : Pages) (table : Table) → table ≡ cat → (p : RecId) (row : Row)
      → IsFoundIn pages table.indexes p row
  found_in_none pages table is p row = rw is tt

  pub new_indexed : (pages : Pages) → ((t : ℕ) → f.state t ≡ Limbo → ⊥) → IsIndexed f pages (new_reading b)
  new_indexed pages none = record {
    committed = λ p table row shows. at p table row
        (shows_one b f h new (committed_in f) system_in p table row shows);
    limbo = λ p table e has alive. absurd (none (writer e) has.limbo);
  }
    where
      at : (p : RecId) (table : Table) (row : Row) → Showing p table row
          → IsFoundIn pages table.indexes p row
      at p table row (of_table place of is) = found_in_none pages table of p row
      at p table row (of_key place of is) = found_in_none pages table of p row
      at p table row (of_value place of is) = found_in_none pages table of p row
