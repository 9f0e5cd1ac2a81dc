-- The rules of a sound image in the order in which they are tested, and which is the first that an
-- image breaks. A rule holds where there are a layout and a reading for which it does, with all
-- rules before it.
use Rattle.std.specs.Prelude.{◌≡◌, ◌↔◌}
use Rattle.mg_image.specs.Reached.{linked_pages}
use Rattle.mg_image.specs.Records.{Reading}
use Rattle.mg_image.specs.Sound.{HasHeader, HasTransactions, IsSound}
use Rattle.mg_image.specs.Tables.{IsOnce, Layout}
use Rattle.mg_layout.specs.HasPages.{HasPages}
use Rattle.mg_reading.specs.declared.image.Image.{Image}
use Rattle.mg_reading.specs.declared.point.ReadFault.{ReadFault}
use Rattle.mg_reading.specs.declared.point.ReadFault.TheVariants.{Broken, Memory}
use Rattle.mg_reading.specs.declared.point.Rule.{Rule}
use Rattle.mg_reading.specs.declared.point.Rule.TheVariants.{Header, Transactions, Pages as RulePages, Once, Links, Drawn, Backs, Keys, Indexed}
use Rattle.mg_reading.specs.declared.rows.RowCoding.{RowCoding}
use Rattle.mg_reading.specs.ImageView.{pages_in}
use Rattle.mg_reading.specs.SoundTables.{form_of}
use Rattle.mg_soundness.specs.Rungs.{HasReadingOf, MeetsBacks, MeetsDrawn, MeetsIndexed, MeetsKeys, MeetsLinks}

-- the header's fields are lawful
abbrev pub MeetsHeader : Image → Type 0
MeetsHeader image = HasHeader image.size (pages_in image)

-- and each transaction below Next has its bits
abbrev pub MeetsTransactions : Image → Type 0
MeetsTransactions image = MeetsHeader image × HasTransactions image.size (pages_in image)

-- and there is a layout of the pages that the catalog leads to, with a property
abbrev pub MeetsPages : RowCoding → Image → (Layout → Type 0) → Type 0
MeetsPages coding image P = MeetsTransactions image
    × ((layout : Layout) × HasPages coding image layout × P layout)

-- no page of a layout is reached twice
abbrev pub IsOnceLinked : Image → Layout → Type 0
IsOnceLinked image layout = IsOnce (linked_pages image.size (pages_in image) layout)

-- and there is a reading of its records, with a property
abbrev pub MeetsRecords : RowCoding → Image → (RowCoding → Image → Layout → Reading → Type 0)
    → Type 0
MeetsRecords coding image P =
    MeetsPages coding image (λ layout. IsOnceLinked image layout × HasReadingOf P coding image layout)

-- an image meets a rule and those before it
abbrev pub Meets : RowCoding → Image → Rule → Type 0
Meets coding image Header = MeetsHeader image
Meets coding image Transactions = MeetsTransactions image
Meets coding image RulePages = MeetsPages coding image (λ layout. Unit {0})
Meets coding image Once = MeetsPages coding image (IsOnceLinked image)
Meets coding image Links = MeetsRecords coding image MeetsLinks
Meets coding image Drawn = MeetsRecords coding image MeetsDrawn
Meets coding image Backs = MeetsRecords coding image MeetsBacks
Meets coding image Keys = MeetsRecords coding image MeetsKeys
Meets coding image Indexed = MeetsRecords coding image MeetsIndexed

-- an image meets the rules before one
abbrev pub MeetsBefore : RowCoding → Image → Rule → Type 0
MeetsBefore coding image Header = Unit {0}
MeetsBefore coding image Transactions = Meets coding image Header
MeetsBefore coding image RulePages = Meets coding image Transactions
MeetsBefore coding image Once = Meets coding image RulePages
MeetsBefore coding image Links = Meets coding image Once
MeetsBefore coding image Drawn = Meets coding image Links
MeetsBefore coding image Backs = Meets coding image Drawn
MeetsBefore coding image Keys = Meets coding image Backs
MeetsBefore coding image Indexed = Meets coding image Keys

-- a rule is the first that an image breaks; want of memory says nothing
abbrev pub IsFirstBroken : RowCoding → Image → ReadFault → Type 0
IsFirstBroken coding image (Broken rule) =
    MeetsBefore coding image rule × (Meets coding image rule → ⊥)
IsFirstBroken coding image Memory = Unit {0}

-- An image stands so: its header and its transactions are lawful, the pages that its catalog leads
-- to are those of this layout, none is reached twice, and there is no other layout.
pub record IsStanding (coding : RowCoding) (image : Image) (layout : Layout) : Type 0 where
  pub header : HasHeader image.size (pages_in image)
  pub transactions : HasTransactions image.size (pages_in image)
  pub pages : HasPages coding image layout
  pub once : IsOnceLinked image layout
  pub only : (other : Layout) → HasPages coding image other → other ≡ layout

-- an image is sound: there are a layout and a reading by which it is
abbrev pub IsSoundImage : RowCoding → Image → Type 0
IsSoundImage coding image = (layout : Layout) × (r : Reading)
    × IsSound (form_of coding) image.size (pages_in image) layout r

-- an image meets the last rule exactly where it is sound
abbrev pub LastIsSound : RowCoding → Type 0
LastIsSound coding = (image : Image) → Meets coding image Indexed ↔ IsSoundImage coding image
