-- The tables of a sound image are readable.
use Rattle.std.proofs.Common.{subst, false, List, [], ◌∷◌}
use Rattle.mg_model.specs.declared.table.Table.{Table}
use Rattle.mg_image.specs.Records.{Reading}
use Rattle.mg_image.specs.Sound.{HasTablePages, IsSound, IsTableData}
use Rattle.mg_image.specs.Tables.{EachFrom, HasStand, Layout, Stand, stands_of}
use Rattle.mg_reading.specs.declared.image.Image.{Image}
use Rattle.mg_reading.specs.declared.rows.RowCoding.{RowCoding}
use Rattle.mg_reading.specs.ImageView.{pages_in}
use Rattle.mg_reading.specs.Readable.{AreReadable, HasReading, IsReadable}
use Rattle.mg_reading.specs.SoundTables.{AreOfLayout, IsOfLayout, SoundIsReadable, form_of}
use Rattle.mg_reading.specs.StandLaws.{each_stand, once_stands, one_of, restricted}
use Rattle.mg_reading.specs.AloneLaws.{table_alone}

-- a table of a sound image is readable
table_readable : (coding : RowCoding) (image : Image) (layout : Layout) (r : Reading) (s : Stand)
    → IsSound (form_of coding) image.size (pages_in image) layout r
    → HasStand (stands_of layout) s → IsReadable coding image s.table
table_readable coding image layout r s sound one =
    let pages = each_stand (HasTablePages false image.size (pages_in image)) (stands_of layout) s
    sound.tables one in
    record {
      pointers = s.pointers;
      chain = pages.chain;
      wanted = pages.pointers;
      tested = subst (EachFrom (IsTableData false image.size (pages_in image) s.table.pointer.0) 0)
          pages.entries pages.data_pages;
      records = subst (HasReading coding image s.table) pages.entries (
        restricted s.data_pages r,
        table_alone coding image (stands_of layout) r s (one_of image.size (pages_in image) (stands_of layout) s
            (once_stands image.size (pages_in image) layout sound.once) sound.tables one)
            sound.records,
      );
    }

all_readable : (coding : RowCoding) (image : Image) (layout : Layout) (r : Reading)
    (tables : List Table) → IsSound (form_of coding) image.size (pages_in image) layout r
    → AreOfLayout layout tables → AreReadable coding image tables
all_readable coding image layout r [] sound each = tt
all_readable coding image layout r (t ∷ tables) sound each =
    (each.0, one each.1, all_readable coding image layout r tables sound each.2)
  where
    one : IsOfLayout layout t → IsReadable coding image t
    one (s, there, same) =
        subst (IsReadable coding image) same (table_readable coding image layout r s sound there)

pub sound_readable : (coding : RowCoding) → SoundIsReadable coding
sound_readable coding = λ image layout r tables sound each. record {
  header = sound.header;
  transactions = sound.transactions;
  inventory = sound.inventory;
  limbo = sound.limbo;
  each = all_readable coding image layout r tables sound each;
}
