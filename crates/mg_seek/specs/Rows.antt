-- The row of a version, and why it is not read.
use Rattle.std.specs.Prelude.{◌≡◌, ◌<◌, ◌^◌, ℕ, List, [], ◌∷◌, length, true, false, Bool, Option, None, Some}
use Rattle.mg_base.specs.declared.damage.Damaged.{Damaged}
use Rattle.mg_base.specs.declared.damage.Field.TheVariants as fields
use Rattle.mg_chain.specs.Refusals.{damage, length_wanted}
use Rattle.mg_image.specs.Form.{Row}
use Rattle.mg_image.specs.RecordRules.{columns_for}
use Rattle.mg_image.specs.Records.{key_of}
use Rattle.mg_model.specs.declared.table.Table.{Table}
use Rattle.mg_pool.specs.declared.fault.PoolFault.TheVariants as pool_faults
use Rattle.mg_rle.specs.Runs.{BreaksAt}
use Rattle.mg_rowcode.specs.Faults.{DecodesTo, RefusesRow}
use Rattle.mg_rowcode.specs.Storable.{AreStorable}
use Rattle.mg_space.specs.declared.fault.SpaceFault.{SpaceFault}
use Rattle.mg_space.specs.declared.fault.SpaceFault.TheVariants as faults
use Rattle.mg_value.specs.declared.shape.Column.{Column}
use Rattle.mg_value.specs.declared.value.Value.{Value}
use Rattle.mg_value.specs.Rows.{columns_of, row_len_of}
use Rattle.mg_version.specs.declared.cell.Version.{Version}
use Rattle.mg_seek.specs.declared.walk.Placed.{Placed}

-- A version of a table gives this row: its body codes it. In the row of a deletion each column but
-- the key may be NULL.
pub record GivesRow (table : Table) (v : Version) (row : Row) : Type 0 where
  pub coded : DecodesTo (columns_for table v.deleted) v.format v.body row
  pub storable : AreStorable row

-- The body of a version that codes a row of these columns is damaged, at the page where it stands:
-- it is no packed text, and its first bad run begins at a byte of so many; or unpacked it is no row,
-- and so many of its bytes begin one, where a row has so many.
pub data IsBodyDamage (columns : List Column) (p : Placed) : Damaged → Type 0 where
  bad_run : (at : ℕ) → BreaksAt p.version.body at
      → IsBodyDamage columns p (damage p.at.page.0 fields.Run at (length_wanted at (length p.version.body)))
  bad_row : (at : ℕ) → RefusesRow (columns_of columns p.version.format) p.version.body at
      → IsBodyDamage columns p
      (damage p.at.page.0 fields.Row at (length_wanted at (row_len_of (columns_of columns p.version.format))))

-- why the body of a version is not read: it is damaged, or memory is wanting
abbrev pub RefusesBody : List Column → Placed → SpaceFault → Type 0
RefusesBody columns p (faults.Full limit) = ⊥
RefusesBody columns p (faults.Damaged it) = IsBodyDamage columns p it
RefusesBody columns p (faults.Pool fault) = fault ≡ pool_faults.Memory

-- the damage of the body of a table's version
abbrev pub IsRowDamage : Table → Placed → Damaged → Type 0
IsRowDamage table p it = IsBodyDamage (columns_for table p.version.deleted) p it

-- why the row of a table's version is not read
abbrev pub RefusesRowOf : Table → Placed → SpaceFault → Type 0
RefusesRowOf table p fault = RefusesBody (columns_for table p.version.deleted) p fault

-- a version that is no deletion gives its row, and a deletion gives none
abbrev pub IsRowOr : Bool → Table → Version → Option Row → Type 0
IsRowOr true table v row = row ≡ None
IsRowOr false table v row = (its : Row) × (row ≡ Some its) × GivesRow table v its

-- the row that the version found gives, none where it is a deletion, or none was found
abbrev pub IsRowFound : Table → Option Placed → Option Row → Type 0
IsRowFound table None row = row ≡ None
IsRowFound table (Some p) row = IsRowOr p.version.deleted table p.version row

-- the key of the row that the version found gives, none where none was found
abbrev pub IsKeyFound : Table → Option Placed → Option Value → Type 0
IsKeyFound table None key = key ≡ None
IsKeyFound table (Some p) key =
    (row : Row) × GivesRow table p.version row × (key ≡ Some (key_of table row))
