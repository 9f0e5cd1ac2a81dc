-- The rules of the records of a layout, each with those before it, and which is the first that is
-- broken.
use Rattle.mg_image.specs.Catalog.{HasOwnTables}
use Rattle.mg_image.specs.Inventory.{state_at}
use Rattle.mg_image.specs.Records.{Reading, cells_of}
use Rattle.mg_image.specs.Sound.{HasNoOldLimbo, IsIndexed, facts_of}
use Rattle.mg_image.specs.RecordRules.{Facts}
use Rattle.mg_image.specs.Tables.{Layout}
use Rattle.mg_reading.specs.declared.image.Image.{Image}
use Rattle.mg_reading.specs.declared.point.ReadFault.{ReadFault}
use Rattle.mg_reading.specs.declared.point.ReadFault.TheVariants.{Broken, Memory}
use Rattle.mg_reading.specs.declared.point.Rule.TheVariants.{Header, Transactions, Pages as RulePages, Once, Links, Drawn, Backs, Keys, Indexed}
use Rattle.mg_reading.specs.declared.rows.RowCoding.{RowCoding}
use Rattle.mg_reading.specs.Codings.{coding_of}
use Rattle.mg_reading.specs.ImageView.{pages_in}
use Rattle.mg_reading.specs.RecordParts.{AreBacks, AreDrawn, HasVersions, HaveOwnKeys}

-- what the records of an image need to know of its other pages
abbrev pub layout_facts : Image → Layout → Facts
layout_facts image layout = facts_of image.size (pages_in image) layout

-- Links: each record has its versions
abbrev pub MeetsLinks : RowCoding → Image → Layout → Reading → Type 0
MeetsLinks coding image layout r =
    HasVersions (coding_of coding) (layout_facts image layout) (cells_of (pages_in image)) r

-- Drawn: their transactions are drawn, none in limbo lies below the oldest active one, and a table
-- that no committed row names has versions of those alone who have made it
abbrev pub MeetsDrawn : RowCoding → Image → Layout → Reading → Type 0
MeetsDrawn coding image layout r = MeetsLinks coding image layout r
    × AreDrawn (layout_facts image layout) r
    × HasNoOldLimbo (state_at image.size (pages_in image)) (pages_in image)
    × HasOwnTables (layout_facts image layout) r layout.catalog.table

-- Backs: back versions are committed
abbrev pub MeetsBacks : RowCoding → Image → Layout → Reading → Type 0
MeetsBacks coding image layout r =
    MeetsDrawn coding image layout r × AreBacks (layout_facts image layout) r

-- Keys: each record has one key, and no two of a table take one
abbrev pub MeetsKeys : RowCoding → Image → Layout → Reading → Type 0
MeetsKeys coding image layout r =
    MeetsBacks coding image layout r × HaveOwnKeys (layout_facts image layout) r

-- Indexed: rows are found in the indexes
abbrev pub MeetsIndexed : RowCoding → Image → Layout → Reading → Type 0
MeetsIndexed coding image layout r =
    MeetsKeys coding image layout r × IsIndexed (layout_facts image layout) (pages_in image) r

-- there is a reading of a layout
abbrev pub HasReadingOf : (RowCoding → Image → Layout → Reading → Type 0)
    → RowCoding → Image → Layout → Type 0
HasReadingOf P coding image layout = (r : Reading) × P coding image layout r

-- of the rules of records this one is broken, and those before it are not
abbrev pub IsFirstBrokenOf : RowCoding → Image → Layout → ReadFault → Type 0
IsFirstBrokenOf coding image layout (Broken Header) = ⊥
IsFirstBrokenOf coding image layout (Broken Transactions) = ⊥
IsFirstBrokenOf coding image layout (Broken RulePages) = ⊥
IsFirstBrokenOf coding image layout (Broken Once) = ⊥
IsFirstBrokenOf coding image layout (Broken Links) = HasReadingOf MeetsLinks coding image layout → ⊥
IsFirstBrokenOf coding image layout (Broken Drawn) = HasReadingOf MeetsLinks coding image layout
    × (HasReadingOf MeetsDrawn coding image layout → ⊥)
IsFirstBrokenOf coding image layout (Broken Backs) = HasReadingOf MeetsDrawn coding image layout
    × (HasReadingOf MeetsBacks coding image layout → ⊥)
IsFirstBrokenOf coding image layout (Broken Keys) = HasReadingOf MeetsBacks coding image layout
    × (HasReadingOf MeetsKeys coding image layout → ⊥)
IsFirstBrokenOf coding image layout (Broken Indexed) = HasReadingOf MeetsKeys coding image layout
    × (HasReadingOf MeetsIndexed coding image layout → ⊥)
IsFirstBrokenOf coding image layout Memory = Unit {0}
