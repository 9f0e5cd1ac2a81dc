-- The version that a write stores codes the row of its event.
use Rattle.std.specs.Prelude.{◌≡◌, ℕ, false}
use Rattle.mg_image.specs.Catalog.{IsSameTable}
use Rattle.mg_image.specs.Form.{packed_coding}
use Rattle.mg_model.specs.declared.table.Table.{Table}
use Rattle.mg_model.specs.Catalog.{catalog_name}
use Rattle.mg_model.specs.Changes.{same_name}
use Rattle.mg_records.specs.Writing.{FitsShape}
use Rattle.mg_records.specs.declared.write.Write.{Write}
use Rattle.mg_row_writes.specs.Storing.{IsStored, row_stored, written_at}
use Rattle.mg_version.specs.declared.cell.Version.{Version}
use Rattle.mg_engine_change_laws.specs.rows.Kept.{row_given}
use Rattle.mg_engine_meaning_laws.specs.PlainTables.{AreFirst}
use Rattle.mg_engine_step_laws.specs.writes.Knowing.{CodesRow}

-- in a table that is not the catalog, and the same but for its indexes
abbrev pub StoredRowsAreCoded : Type 0
StoredRowsAreCoded = (its table : Table) (t : ℕ) (write : Write) (v : Version) → IsSameTable its table
    → same_name table.name catalog_name ≡ false → AreFirst table.shape.columns → FitsShape table.shape write
    → IsStored table t write v
    → CodesRow packed_coding its v (row_stored table write) t (written_at table write) (row_given write)
