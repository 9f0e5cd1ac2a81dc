-- What was read of the tables of a layout, against the rules of records.
use Rattle.std.proofs.Common.{◌≡◌, subst, List, Some}
use Rattle.std.proofs.Math.Path.{fun_ext}
use Rattle.mg_base.specs.declared.numbers.RecId.{RecId}
use Rattle.mg_model.specs.declared.table.Table.{Table}
use Rattle.mg_image.specs.Inventory.{state_at}
use Rattle.mg_image.specs.RecordRules.{Each}
use Rattle.mg_image.specs.Records.{Reading}
use Rattle.mg_image.specs.Sound.{HasNoOldLimbo, IsIndexed}
use Rattle.mg_image.specs.Tables.{Layout, Stand, stands_of, table_at}
use Rattle.mg_reading.specs.declared.found.Found.{Found}
use Rattle.mg_reading.specs.declared.image.Image.{Image}
use Rattle.mg_reading.specs.declared.rows.RowCoding.{RowCoding}
use Rattle.mg_reading.specs.Found.{image_facts, reading_of}
use Rattle.mg_reading.specs.ImageView.{pages_in}
use Rattle.mg_reading.specs.RecordParts.{AreBacks, AreBacksCommitted, AreDrawn, HaveOwnKeys, IsDrawn}
use Rattle.mg_soundness.specs.IndexRule.{IsRecordIndexed, IsTableIndexed}
use Rattle.mg_soundness.specs.Joined.{AreSettled, AreTested, EachRead, EachTable, IsKeyed, IsTableRead, joined}
use Rattle.mg_soundness.specs.Rungs.{HasReadingOf, MeetsBacks, MeetsDrawn, MeetsIndexed, MeetsKeys, MeetsLinks, layout_facts}
use Rattle.mg_soundness.proofs.IndexLemmas.{none_indexed}
use Rattle.mg_soundness.proofs.JoinLemmas.{join_versions, joined_only}
use Rattle.mg_soundness.proofs.RuleLemmas.{every_place, have_tables, join_keys, keys_alone, read_tables, tables_have, tables_read}

-- The tables of a layout were read.
pub record AreRead (coding : RowCoding) (image : Image) (layout : Layout) (fs : List (List Found))
    : Type 0 where
  pub tested : AreTested image (stands_of layout)
  pub each : EachTable (IsTableRead coding image) (stands_of layout) fs

-- the reading that this is
abbrev pub reading_in : Layout → List (List Found) → Reading
reading_in layout fs = joined (stands_of layout) fs

pub meets_links : (coding : RowCoding) (image : Image) (layout : Layout) (fs : List (List Found))
    → AreRead coding image layout fs → MeetsLinks coding image layout (reading_in layout fs)
meets_links coding image layout fs read =
    join_versions coding image (stands_of layout) fs read.tested read.each

pub same_reading : (coding : RowCoding) (image : Image) (layout : Layout)
    (fs : List (List Found)) → AreRead coding image layout fs → (other : Reading)
    → MeetsLinks coding image layout other → other ≡ reading_in layout fs
same_reading coding image layout fs read other links =
    fun_ext (joined_only coding image (stands_of layout) fs read.tested read.each other links)

pub are_settled : (coding : RowCoding) (image : Image) (ss : List Stand) (fs : List (List Found))
    → EachTable (IsTableRead coding image) ss fs → EachRead AreSettled fs
are_settled coding image ss fs each = tables_read AreSettled (IsTableRead coding image)
    (λ s found read. read.settled) ss fs each

-- the transactions of what was read are drawn
abbrev pub FoundDrawn : Image → List Found → Type 0
FoundDrawn image found = AreDrawn (image_facts image) (reading_of found)

pub drawn_all : (coding : RowCoding) (image : Image) (layout : Layout) (fs : List (List Found))
    → AreRead coding image layout fs → EachRead (FoundDrawn image) fs
    → AreDrawn (layout_facts image layout) (reading_in layout fs)
drawn_all coding image layout fs read drawn =
    every_place (λ p es. Each (IsDrawn (image_facts image)) es) (λ p. tt) (stands_of layout) fs
    (tables_have (λ t p es. Each (IsDrawn (image_facts image)) es) image (stands_of layout) fs
    read.tested (read_tables (FoundDrawn image) (FoundDrawn image) (IsTableRead coding image)
    (λ s found is d. d) (stands_of layout) fs read.each drawn))

drawn_each : (coding : RowCoding) (image : Image) (layout : Layout) (fs : List (List Found))
    → AreRead coding image layout fs
    → AreDrawn (layout_facts image layout) (reading_in layout fs) → EachRead (FoundDrawn image) fs
drawn_each coding image layout fs read drawn = tables_read (FoundDrawn image)
    (λ s found. (p : RecId) → Each (IsDrawn (image_facts image)) (reading_of found p))
    (λ s found d. d) (stands_of layout) fs
    (have_tables (λ t p es. Each (IsDrawn (image_facts image)) es) (λ t p. tt) coding image
    (stands_of layout) fs read.tested read.each (λ p t is. drawn p))

-- the back versions of what was read are committed
abbrev pub FoundBacks : Image → List Found → Type 0
FoundBacks image found = AreBacks (image_facts image) (reading_of found)

pub backs_all : (coding : RowCoding) (image : Image) (layout : Layout) (fs : List (List Found))
    → AreRead coding image layout fs → EachRead (FoundBacks image) fs
    → AreBacks (layout_facts image layout) (reading_in layout fs)
backs_all coding image layout fs read backs =
    every_place (λ p es. AreBacksCommitted (image_facts image) es) (λ p. tt) (stands_of layout) fs
    (tables_have (λ t p es. AreBacksCommitted (image_facts image) es) image (stands_of layout) fs
    read.tested (read_tables (FoundBacks image) (FoundBacks image) (IsTableRead coding image)
    (λ s found is b. b) (stands_of layout) fs read.each backs))

backs_each : (coding : RowCoding) (image : Image) (layout : Layout) (fs : List (List Found))
    → AreRead coding image layout fs
    → AreBacks (layout_facts image layout) (reading_in layout fs) → EachRead (FoundBacks image) fs
backs_each coding image layout fs read backs = tables_read (FoundBacks image)
    (λ s found. (p : RecId) → AreBacksCommitted (image_facts image) (reading_of found p))
    (λ s found b. b) (stands_of layout) fs
    (have_tables (λ t p es. AreBacksCommitted (image_facts image) es) (λ t p. tt) coding image
    (stands_of layout) fs read.tested read.each (λ p t is. backs p))

pub keys_all : (coding : RowCoding) (image : Image) (layout : Layout) (fs : List (List Found))
    → AreRead coding image layout fs → EachTable (IsKeyed image) (stands_of layout) fs
    → HaveOwnKeys (layout_facts image layout) (reading_in layout fs)
keys_all coding image layout fs read keyed =
    join_keys image (stands_of layout) fs read.tested keyed

-- rows of what was read are found in the indexes
pub indexed_all : (coding : RowCoding) (image : Image) (layout : Layout) (fs : List (List Found))
    → AreRead coding image layout fs → EachTable (IsTableIndexed image) (stands_of layout) fs
    → IsIndexed (layout_facts image layout) (pages_in image) (reading_in layout fs)
unfolding IsTableIndexed
indexed_all coding image layout fs read indexed = record {
  committed = λ p table row shows. (here p table shows.of_table).committed row shows.row_shown;
  limbo = λ p table e newest live. (here p table newest.of_table).limbo e newest.older
      newest.newest newest.limbo live;
}
  where
    here : (p : RecId) (t : Table) → table_at (stands_of layout) p.page.0 ≡ Some t
        → IsRecordIndexed image t p (reading_in layout fs p)
    here = tables_have (λ t p es. IsRecordIndexed image t p es) image (stands_of layout) fs
        read.tested indexed

indexed_each : (coding : RowCoding) (image : Image) (layout : Layout) (fs : List (List Found))
    → AreRead coding image layout fs
    → IsIndexed (layout_facts image layout) (pages_in image) (reading_in layout fs)
    → EachTable (IsTableIndexed image) (stands_of layout) fs
unfolding IsTableIndexed
indexed_each coding image layout fs read indexed = have_tables
    (λ t p es. IsRecordIndexed image t p es) (none_indexed image) coding image (stands_of layout) fs
    read.tested read.each (λ p t is. record {
      committed = λ row shows. indexed.committed p t row (record {
        of_table = is;
        row_shown = shows;
      });
      limbo = λ e older newest limbo live. indexed.limbo p t e (record {
        of_table = is;
        older = older;
        newest = newest;
        limbo = limbo;
      }) live;
    })

-- where a reading meets a rule, what was read does
pub drawn_must : (coding : RowCoding) (image : Image) (layout : Layout) (fs : List (List Found))
    → AreRead coding image layout fs → HasReadingOf MeetsDrawn coding image layout
    → EachRead (FoundDrawn image) fs
    × HasNoOldLimbo (state_at image.size (pages_in image)) (pages_in image)
drawn_must coding image layout fs read (r, met) = (
  drawn_each coding image layout fs read (subst (AreDrawn (layout_facts image layout))
      (same_reading coding image layout fs read r met.0) met.1),
  met.2,
)

pub backs_must : (coding : RowCoding) (image : Image) (layout : Layout) (fs : List (List Found))
    → AreRead coding image layout fs → HasReadingOf MeetsBacks coding image layout
    → EachRead (FoundBacks image) fs
backs_must coding image layout fs read (r, met) = backs_each coding image layout fs read
    (subst (AreBacks (layout_facts image layout))
    (same_reading coding image layout fs read r met.0.0) met.1)

pub keys_must : (coding : RowCoding) (image : Image) (layout : Layout) (fs : List (List Found))
    → AreRead coding image layout fs → HasReadingOf MeetsKeys coding image layout
    → EachTable (IsKeyed image) (stands_of layout) fs
keys_must coding image layout fs read (r, met) =
    keys_alone coding image (stands_of layout) fs read.tested read.each
    (subst (HaveOwnKeys (layout_facts image layout))
    (same_reading coding image layout fs read r met.0.0.0) met.1)

pub indexed_must : (coding : RowCoding) (image : Image) (layout : Layout)
    (fs : List (List Found)) → AreRead coding image layout fs
    → HasReadingOf MeetsIndexed coding image layout
    → EachTable (IsTableIndexed image) (stands_of layout) fs
indexed_must coding image layout fs read (r, met) = indexed_each coding image layout fs read
    (subst (IsIndexed (layout_facts image layout) (pages_in image))
    (same_reading coding image layout fs read r met.0.0.0.0) met.1)
