-- The test of soundness as a whole, from the rules of the records of a layout.
use Rattle.std.proofs.Common.{◌≤◌, lit≤, List, [], ◌∷◌, length, Result, Ok, Err}
use Rattle.std.specs.Prelude.{IfErr, OnOk}
use Rattle.mg_value.specs.declared.shape.TheConstants.{MOST_COLUMNS}
use Rattle.mg_model.specs.CatalogRules.{EachTable}
use Rattle.mg_catalog.specs.TableLaws.{tables_are_small}
use Rattle.mg_image.specs.Form.{packed_coding, plain_coding}
use Rattle.mg_image.specs.ReadingLaws.{HasOneReading}
use Rattle.mg_image.specs.Tables.{EachStand, Layout, Stand, stands_of}
use Rattle.mg_layout.specs.HasPages.{IsStand, tables_in}
use Rattle.mg_reading.specs.declared.image.Image.{Image}
use Rattle.mg_reading.specs.declared.point.ReadFault.{ReadFault}
use Rattle.mg_reading.specs.declared.rows.RowCoding.{RowCoding}
use Rattle.mg_reading.specs.declared.rows.RowCoding.TheVariants.{Plain, Packed}
use Rattle.mg_reading.specs.Codings.{coding_of}
use Rattle.mg_reading.specs.ImageView.{pages_in}
use Rattle.mg_reading.specs.StandLaws.{once_stands}
use Rattle.mg_soundness.specs.Joined.{AreTested, IsTested}
use Rattle.mg_soundness.specs.Ladder.{IsFirstBroken, IsSoundImage, IsStanding}
use Rattle.mg_soundness.specs.Rungs.{HasReadingOf, IsFirstBrokenOf, MeetsIndexed}
use Rattle.mg_soundness.proofs.LadderLemmas.{first_of_records, some_records}
use Rattle.mg_soundness.proofs.SoundLemmas.{meets_sound}

-- an image has one reading in either coding
pub one_of_coding : (coding : RowCoding) → HasOneReading plain_coding
    → HasOneReading packed_coding → HasOneReading (coding_of coding)
one_of_coding Plain plain packed = plain
one_of_coding Packed plain packed = packed

-- the pages of tables with few columns are tested
tested_stands : (image : Image) (ss : List Stand)
    → EachTable (λ t. length t.shape.columns ≤ MOST_COLUMNS) (tables_in ss)
    → EachStand (IsStand image) ss → EachStand (IsTested image) ss
tested_stands image [] small each = tt
tested_stands image (s ∷ ss) small each =
    ((small.0, each.0), tested_stands image ss small.1 each.1)

-- where the catalog and the tables stand, their pages are tested
pub tested_of : (coding : RowCoding) (image : Image) (layout : Layout)
    → IsStanding coding image layout → AreTested image (stands_of layout)
tested_of coding image layout is = record {
  once = once_stands image.size (pages_in image) layout is.once;
  each = (
    (rw is.pages.catalog (lit≤ tt), is.pages.tables.0),
    tested_stands image layout.tables small is.pages.tables.1,
  );
}
  where
    small : EachTable (λ t. length t.shape.columns ≤ MOST_COLUMNS) (tables_in layout.tables)
    small = let all = is.pages.names.names.all in
        tables_are_small all.rows (tables_in layout.tables) all.are_tables

-- an image whose records meet all rules is sound
pub sound_of_all : (coding : RowCoding) → HasOneReading (coding_of coding) → (image : Image)
    (layout : Layout) → IsStanding coding image layout → (r : Result (Unit {0}) ReadFault)
    → OnOk r (HasReadingOf MeetsIndexed coding image layout) → OnOk r (IsSoundImage coding image)
sound_of_all coding one image layout is (Err fault) met = tt
sound_of_all coding one image layout is (Ok x) met =
    meets_sound coding one image (some_records MeetsIndexed coding image layout is met)

-- the first rule that its records break is the first that it breaks
pub first_of_all : (coding : RowCoding) (image : Image) (layout : Layout)
    → IsStanding coding image layout → (r : Result (Unit {0}) ReadFault)
    → IfErr r (IsFirstBrokenOf coding image layout) → IfErr r (IsFirstBroken coding image)
first_of_all coding image layout is (Ok x) first = tt
first_of_all coding image layout is (Err fault) first =
    first_of_records coding image layout is fault first
