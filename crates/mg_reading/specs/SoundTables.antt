-- Which tables a sound image is asked for.
use Rattle.std.specs.Prelude.{◌≡◌, ◌≤◌, false, List, [], ◌∷◌, length}
use Rattle.mg_value.specs.declared.shape.TheConstants.{MOST_COLUMNS}
use Rattle.mg_model.specs.declared.table.Table.{Table}
use Rattle.mg_image.specs.Form.{Form, NoSequence}
use Rattle.mg_image.specs.Records.{Reading}
use Rattle.mg_image.specs.Sound.{IsSound}
use Rattle.mg_image.specs.Tables.{HasStand, Layout, Stand, stands_of}
use Rattle.mg_reading.specs.declared.image.Image.{Image}
use Rattle.mg_reading.specs.declared.rows.RowCoding.{RowCoding}
use Rattle.mg_reading.specs.Codings.{coding_of}
use Rattle.mg_reading.specs.ImageView.{pages_in}
use Rattle.mg_reading.specs.Readable.{IsReadableImage}

-- the form of images whose rows stand so
abbrev pub form_of : RowCoding → Form
form_of coding = record {
  coding = coding_of coding;
  in_primary = false;
  sequence_page = NoSequence;
}

-- a table is the catalog or one of those that it names
abbrev pub IsOfLayout : Layout → Table → Type 0
IsOfLayout layout table =
    (stand : Stand) × HasStand (stands_of layout) stand × (stand.table ≡ table)

-- each of these is, and has not too many columns
abbrev pub AreOfLayout : Layout → List Table → Type 0
AreOfLayout layout [] = Unit {0}
AreOfLayout layout (table ∷ tables) = (length table.shape.columns ≤ MOST_COLUMNS)
    × IsOfLayout layout table × AreOfLayout layout tables

-- the plain reading has no cause to refuse a sound image
abbrev pub SoundIsReadable : RowCoding → Type 0
SoundIsReadable coding = (image : Image) (layout : Layout) (r : Reading) (tables : List Table)
    → IsSound (form_of coding) image.size (pages_in image) layout r → AreOfLayout layout tables
    → IsReadableImage coding image tables
