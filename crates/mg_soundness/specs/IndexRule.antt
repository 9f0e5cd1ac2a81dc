-- When the rows of a table are found in its indexes, record by record.
use Rattle.std.specs.Prelude.{◌≡◌, false, List, [], ◌∷◌, Some}
use Rattle.mg_base.specs.declared.numbers.RecId.{RecId}
use Rattle.mg_base.specs.declared.transaction.TxState.TheVariants.{Limbo}
use Rattle.mg_model.specs.declared.table.Table.{Table}
use Rattle.mg_image.specs.declared.entry.Entry.{Entry}
use Rattle.mg_image.specs.Form.{Row}
use Rattle.mg_image.specs.Indexes.{IsFoundIn}
use Rattle.mg_image.specs.Inventory.{state_at}
use Rattle.mg_image.specs.Records.{shown, writer}
use Rattle.mg_image.specs.Tables.{Stand}
use Rattle.mg_reading.specs.declared.found.Found.{Found}
use Rattle.mg_reading.specs.declared.image.Image.{Image}
use Rattle.mg_reading.specs.Found.{committed_of, reading_of}
use Rattle.mg_reading.specs.ImageView.{pages_in}

-- the row that a record of a table shows is found in the table's indexes
abbrev pub IsShownFound : Image → Table → RecId → List Entry → Type 0
IsShownFound image table p es = (row : Row) → shown (committed_of image) es ≡ Some row
    → IsFoundIn (pages_in image) table.indexes p row

-- so is that of its limbo version, where it is no deletion
abbrev pub IsLimboFound : Image → Table → RecId → List Entry → Type 0
IsLimboFound image table p es = (e : Entry) (older : List Entry) → es ≡ e ∷ older
    → state_at image.size (pages_in image) (writer e) ≡ Limbo → e.version.deleted ≡ false
    → IsFoundIn (pages_in image) table.indexes p e.row

-- The rows of a record of a table are found in its indexes.
pub record IsRecordIndexed (image : Image) (table : Table) (p : RecId) (es : List Entry)
    : Type 0 where
  pub committed : IsShownFound image table p es
  pub limbo : IsLimboFound image table p es

-- each of these records has a property at its place
abbrev pub EachAt : (RecId → List Entry → Type 0) → List Found → Type 0
EachAt P [] = Unit {0}
EachAt P (found ∷ more) = P found.at found.entries.items × EachAt P more

-- the records of a table are found in its indexes
unfoldable pub IsTableIndexed : Image → Stand → List Found → Type 0
IsTableIndexed image s found = (p : RecId) → IsRecordIndexed image s.table p (reading_of found p)
