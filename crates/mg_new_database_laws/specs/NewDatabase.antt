-- The catalog and the table KV of a new database: where they stand, and what is read of them.
use Rattle.std.specs.Prelude.{◌==◌, ℕ, zero, suc, Bool, true, false, List, [], ◌∷◌, Option, None, Some, codes, if◌then◌else◌}
use Rattle.mg_base.specs.declared.numbers.RecId.{RecId}
use Rattle.mg_image.specs.Form.{Row, packed_coding}
use Rattle.mg_image.specs.NewDatabase.{IsCatalogBody, key_row, table_row, value_row}
use Rattle.mg_image.specs.Records.{Reading}
use Rattle.mg_image.specs.Tables.{Layout}
use Rattle.mg_image.specs.declared.entry.Entry.{Entry}
use Rattle.mg_model.specs.Catalog.{catalog_name, catalog_shape}
use Rattle.mg_model.specs.NewDatabase.{kv_name}
use Rattle.mg_model.specs.declared.table.Table.{Table}
use Rattle.mg_new_database_laws.specs.Data.{stand_on, table_on}
use Rattle.mg_value.specs.declared.shape.Column.{Column}
use Rattle.mg_value.specs.declared.shape.Kind.TheVariants as kinds
use Rattle.mg_value.specs.declared.shape.Shape.{Shape}
use Rattle.mg_version.specs.declared.cell.Cell.{Cell}
use Rattle.mg_version.specs.declared.cell.Cell.TheVariants as cells
use Rattle.mg_version.specs.declared.cell.Link.{Link}
use Rattle.mg_version.specs.declared.cell.Version.{Version}

-- ---- the tables

-- a BIGINT column that came with its table
abbrev pub int_column : List ℕ → Bool → Column
int_column name not_null = record { name = name; kind = kinds.Int; not_null = not_null; since = 1 }

-- K BIGINT PRIMARY KEY, V BIGINT
abbrev pub kv_shape : Shape
kv_shape = record { columns = int_column (codes "K") true ∷ int_column (codes "V") false ∷ []; key = 0 }

abbrev pub kv_table : Table
kv_table = table_on kv_name kv_shape 5

-- the catalog and KV stand on one pointer page and one data page each
abbrev pub new_layout : Layout
new_layout = record {
  catalog = stand_on catalog_name catalog_shape 3 4;
  tables = stand_on kv_name kv_shape 5 6 ∷ [];
  sequences = [];
}

-- ---- the records of the catalog

-- The bodies of the versions in the catalog: of the row of KV, and of those of its two columns.
pub record Bodies : Type 0 where
  pub table : List ℕ
  pub key : List ℕ
  pub value : List ℕ

-- they code these rows
pub record AreCoded (b : Bodies) : Type 0 where
  pub table : IsCatalogBody packed_coding table_row b.table
  pub key : IsCatalogBody packed_coding key_row b.key
  pub value : IsCatalogBody packed_coding value_row b.value

-- a slot of the catalog's data page
abbrev pub catalog_slot : ℕ → RecId
catalog_slot slot = record { page = record { 0 = 4 }; slot = slot }

-- leads to the version of the system's transaction in a slot of that page
abbrev pub system_link : ℕ → Link
system_link slot = record { rec = catalog_slot slot; tx = record { 0 = 0 } }

-- the first version of a record, of the system's transaction
abbrev pub system_version : List ℕ → Version
system_version body = record {
  primary = false;
  deleted = false;
  format = 1;
  tx = record { 0 = 0 };
  back = None;
  body = body;
}

-- the cells of the catalog's data page: of each record an anchor, and behind it its one version
abbrev pub cell_at : Bodies → ℕ → Option Cell
cell_at b zero = Some (cells.Anchor (system_link 1))
cell_at b (suc zero) = Some (cells.Version (system_version b.table))
cell_at b (suc (suc zero)) = Some (cells.Anchor (system_link 3))
cell_at b (suc (suc (suc zero))) = Some (cells.Version (system_version b.key))
cell_at b (suc (suc (suc (suc zero)))) = Some (cells.Anchor (system_link 5))
cell_at b (suc (suc (suc (suc (suc zero))))) = Some (cells.Version (system_version b.value))
cell_at b (suc (suc (suc (suc (suc (suc slot)))))) = None

-- ---- what is read

-- the one version of a record of the catalog
abbrev pub system_entry : ℕ → List ℕ → Row → Entry
system_entry slot body row = record { at = catalog_slot slot; version = system_version body; row = row }

-- the versions of the record in a slot of the catalog's data page
abbrev pub catalog_entries : Bodies → ℕ → List Entry
catalog_entries b zero = system_entry 1 b.table table_row ∷ []
catalog_entries b (suc zero) = []
catalog_entries b (suc (suc zero)) = system_entry 3 b.key key_row ∷ []
catalog_entries b (suc (suc (suc zero))) = []
catalog_entries b (suc (suc (suc (suc zero)))) = system_entry 5 b.value value_row ∷ []
catalog_entries b (suc (suc (suc (suc (suc slot))))) = []

-- the records of the catalog, and no others
abbrev pub new_reading : Bodies → Reading
new_reading b p = if p.page.0 == 4 then catalog_entries b p.slot else []
