-- The key of a row of a lawful table is not NULL, and the row fits the table.
use Rattle.std.specs.Prelude.{◌≡◌, ◌≢◌, ◌≤◌, ℕ, zero, suc, true, false, List, [], ◌∷◌}
use Rattle.mg_base.specs.declared.transaction.TxState.{TxState}
use Rattle.mg_image.specs.Form.{Pages, Row, packed_form}
use Rattle.mg_image.specs.Records.{Reading, key_of}
use Rattle.mg_image.specs.Sound.{IsSoundBy}
use Rattle.mg_image.specs.Tables.{Layout}
use Rattle.mg_model.specs.declared.table.Table.{Table}
use Rattle.mg_seek.specs.Rows.{GivesRow}
use Rattle.mg_image_opening_laws.specs.Fits.{LaterAreNull}
use Rattle.mg_image_overlay_laws.specs.tables.Growing.{IsTableOf}
use Rattle.mg_value.specs.declared.shape.Column.{Column}
use Rattle.mg_value.specs.declared.shape.Shape.{Shape}
use Rattle.mg_value.specs.Rows.{RowFits}
use Rattle.mg_value.specs.declared.value.Value.TheVariants.{Null}
use Rattle.mg_version.specs.declared.cell.Version.{Version}

-- the column at a place is never NULL, and it and those before it were there from the first format on
abbrev pub IsKeyAt : List Column → ℕ → Type 0
IsKeyAt [] at = ⊥
IsKeyAt (column ∷ columns) zero = (column.since ≤ 1) × (column.not_null ≡ true)
IsKeyAt (column ∷ columns) (suc at) = (column.since ≤ 1) × IsKeyAt columns at

-- the column of the key is so
abbrev pub IsKeyed : Shape → Type 0
IsKeyed shape = IsKeyAt shape.columns shape.key

-- in the shape of a table that stands it is
abbrev pub TablesAreKeyed : Type 0
TablesAreKeyed = (size : ℕ) (state : ℕ → TxState) (pages : Pages) (layout : Layout) (r : Reading)
    → IsSoundBy packed_form size state pages layout r → (table : Table) → IsTableOf layout table
    → IsKeyed table.shape

-- a column of it that came later allows NULL
abbrev pub LaterColumnsAllowNull : Type 0
LaterColumnsAllowNull = (size : ℕ) (state : ℕ → TxState) (pages : Pages) (layout : Layout) (r : Reading)
    → IsSoundBy packed_form size state pages layout r → (table : Table) → IsTableOf layout table
    → LaterAreNull table.shape.columns

-- then a version that is no deletion gives a row that fits
abbrev pub RowsFit : Type 0
RowsFit = (table : Table) (v : Version) (row : Row) → LaterAreNull table.shape.columns → v.format ≡ 1
    → v.deleted ≡ false → GivesRow table v row → RowFits table.shape.columns row

-- and no version gives a row without a key
abbrev pub RowsAreKeyed : Type 0
RowsAreKeyed = (table : Table) (v : Version) (row : Row) → IsKeyed table.shape → v.format ≡ 1
    → GivesRow table v row → key_of table row ≢ Null
