-- What a write stores.
use Rattle.std.specs.Prelude.{◌≡◌, ◌≢◌, ◌+◌, ◌≤◌, ◌<◌, ◌==◌, ℕ, Bool, true, false, List, [], ◌∷◌, if◌then◌else◌}
use Rattle.std.specs.Prelude.{length}
use Rattle.mg_image.specs.Form.{Row}
use Rattle.mg_image.specs.RecordRules.{columns_for}
use Rattle.mg_model.specs.Catalog.{key_of}
use Rattle.mg_model.specs.declared.table.Table.{Table}
use Rattle.mg_records.specs.declared.write.Write.{Write}
use Rattle.mg_records.specs.declared.write.Write.TheVariants as writes
use Rattle.mg_rle.specs.Runs.{StandsFor}
use Rattle.mg_rowcode.specs.Storable.{AreStorable}
use Rattle.mg_value.specs.Rows.{RowFits, row_bytes}
use Rattle.mg_value.specs.declared.shape.Column.{Column}
use Rattle.mg_value.specs.declared.value.Value.{Value}
use Rattle.mg_value.specs.declared.value.Value.TheVariants.{Null}
use Rattle.mg_version.specs.declared.cell.Version.{Version}

-- the key under which a write puts a row, or deletes one
abbrev pub written_at : Table → Write → Value
written_at table (writes.Insert row) = key_of table.shape row
written_at table (writes.Change key row) = key
written_at table (writes.Erase key) = key

-- whether a write deletes
abbrev pub erases : Write → Bool
erases (writes.Insert row) = false
erases (writes.Change key row) = false
erases (writes.Erase key) = true

-- a row with a value at a place, and NULL elsewhere
abbrev pub alone_at : ℕ → ℕ → Value → List Column → Row
alone_at key at value [] = []
alone_at key at value (column ∷ columns) =
    (if at == key then value else Null) ∷ alone_at key (at + 1) value columns

-- the row that a write stores: that of a deletion has its key alone
abbrev pub row_stored : Table → Write → Row
row_stored table (writes.Insert row) = row
row_stored table (writes.Change key row) = row
row_stored table (writes.Erase key) = alone_at table.shape.key 0 key table.shape.columns

-- A version stores a row under some columns; its values are of the types that the program has.
pub record StoresRow (columns : List Column) (row : Row) (v : Version) : Type 0 where
  pub fits : RowFits columns row
  pub storable : AreStorable row
  pub packed : StandsFor v.body (row_bytes columns row)

-- The version that a transaction's write stores.
pub record IsStored (table : Table) (t : ℕ) (write : Write) (v : Version) : Type 0 where
  pub apart : v.primary ≡ false
  pub its : v.tx.0 ≡ t
  pub format : v.format ≡ 1
  pub deleted : v.deleted ≡ erases write
  pub row : StoresRow (columns_for table (erases write)) (row_stored table write) v

-- A version of this length may be stored in a table of this first page: on a page there is room for it.
pub record MayBeStored (size owner : ℕ) (v : Version) : Type 0 where
  pub some : owner ≢ 0
  pub short : length v.body + 42 ≤ size
