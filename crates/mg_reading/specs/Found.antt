-- What is read of the slots of a table, as a list.
use Rattle.std.specs.Prelude.{◌≡◌, ◌⊎◌, ◌<◌, ℕ, Bool, List, [], ◌∷◌, None, Some, if◌then◌else◌}
use Rattle.mg_base.specs.declared.numbers.RecId.{RecId}
use Rattle.mg_slots.specs.DataPage.{slot_count}
use Rattle.mg_reading.specs.Codings.{coding_of}
use Rattle.mg_reading.specs.declared.found.Found.{Found}
use Rattle.mg_reading.specs.declared.image.Image.{Image}
use Rattle.mg_reading.specs.declared.rows.RowCoding.{RowCoding}
use Rattle.mg_model.specs.declared.table.Table.{Table}
use Rattle.mg_model.specs.Answers.{is_committed}
use Rattle.mg_reading.specs.ImageView.{pages_in}
use Rattle.mg_image.specs.Inventory.{next_of, oldest_of, state_at}
use Rattle.mg_image.specs.declared.entry.Entry.{Entry}
use Rattle.mg_reading.specs.OneTable.{table_facts}
use Rattle.mg_reading.specs.Readable.{IsOnlyRecord}
use Rattle.mg_reading.specs.RecordParts.{AreVersions, TakeOneKey}
use Rattle.mg_image.specs.RecordRules.{Facts, committed_in}
use Rattle.mg_image.specs.Records.{Chain, Reading, Stands, cells_of, newest_of, shown}
use Rattle.mg_image.specs.Form.{Row}
use Rattle.mg_image.specs.StepLaws.{same_place}
use Rattle.mg_image.specs.Tables.{Has}

-- whether a transaction of an image is committed
abbrev pub committed_of : Image → ℕ → Bool
committed_of image t = is_committed (state_at image.size (pages_in image) t)

-- What was read of a slot is what its cell leads to, and these are the versions of a record of the
-- table, the only ones.
pub record IsFound (coding : RowCoding) (image : Image) (table : Table) (ns : List ℕ)
    (found : Found) : Type 0 where
  pub placed : Has ns found.at.page.0
  pub chain : Chain (cells_of (pages_in image))
      (newest_of found.at (cells_of (pages_in image) found.at)) found.entries.items
  pub versions : AreVersions (coding_of coding) (table_facts image table ns) table
      found.entries.items
  pub only : IsOnlyRecord coding image table ns
      (newest_of found.at (cells_of (pages_in image) found.at)) found.entries.items

-- each of these was read so
abbrev pub AreFound : RowCoding → Image → Table → List ℕ → List Found → Type 0
AreFound coding image table ns [] = Unit {0}
AreFound coding image table ns (found ∷ more) =
    IsFound coding image table ns found × AreFound coding image table ns more

-- a slot was read
abbrev pub WasRead : List Found → RecId → Type 0
WasRead [] p = ⊥
WasRead (found ∷ more) p = (found.at ≡ p) ⊎ WasRead more p

-- the slots of a page below a number were read
abbrev pub SlotsRead : List Found → ℕ → ℕ → Type 0
SlotsRead found n count = (p : RecId) → p.page.0 ≡ n → p.slot < count → WasRead found p

-- the slots of these pages were read
abbrev pub PagesRead : Image → List Found → List ℕ → Type 0
PagesRead image found ns = (p : RecId) → Has ns p.page.0
    → p.slot < slot_count (pages_in image p.page.0) → WasRead found p

-- the reading that these slots are
abbrev pub reading_of : List Found → Reading
reading_of [] p = []
reading_of (found ∷ more) p =
    if same_place found.at p then found.entries.items else reading_of more p

-- each of these is what a reading has at its place
abbrev pub AreOf : Reading → List Found → Type 0
AreOf r [] = Unit {0}
AreOf r (found ∷ more) = (r found.at ≡ found.entries.items) × AreOf r more

-- the versions of each of these records have a property
abbrev pub EachFound : (List Entry → Type 0) → List Found → Type 0
EachFound P [] = Unit {0}
EachFound P (found ∷ more) = P found.entries.items × EachFound P more

-- two records have a cell in common
abbrev pub SharesCell : List Entry → List Entry → Type 0
SharesCell a b = (x : RecId) × Stands a x × Stands b x

-- records with a cell in common are one
abbrev pub IsApart : Found → Found → Type 0
IsApart a b = SharesCell a.entries.items b.entries.items → a.at ≡ b.at

-- no other record of these has a cell of a record
abbrev pub HasNoCellOf : Found → List Found → Type 0
HasNoCellOf found [] = Unit {0}
HasNoCellOf found (other ∷ more) = IsApart found other × HasNoCellOf found more

-- no two of these records have a cell in common
abbrev pub AreApart : List Found → Type 0
AreApart [] = Unit {0}
AreApart (found ∷ more) = HasNoCellOf found more × AreApart more

-- what becomes of keys depends on the states of transactions alone
abbrev pub image_facts : Image → Facts
image_facts image = record {
  state = state_at image.size (pages_in image);
  next = next_of (pages_in image);
  oldest = oldest_of (pages_in image);
  table_of = λ n. None;
}

-- a record shows a row
abbrev pub ShowsRow : Facts → List Entry → Type 0
ShowsRow f es = (row : Row) × (shown (committed_in f) es ≡ Some row)

-- records that take one key are one
abbrev pub HasOwnKey : Facts → Table → Found → Found → Type 0
HasOwnKey f table a b = TakeOneKey f table a.entries.items b.entries.items → a.at ≡ b.at

-- no other record of these takes the key of a record
abbrev pub HasNoKeyOf : Facts → Table → Found → List Found → Type 0
HasNoKeyOf f table found [] = Unit {0}
HasNoKeyOf f table found (other ∷ more) =
    HasOwnKey f table found other × HasNoKeyOf f table found more

-- no two of these records take one key
abbrev pub HaveKeys : Facts → Table → List Found → Type 0
HaveKeys f table [] = Unit {0}
HaveKeys f table (found ∷ more) = HasNoKeyOf f table found more × HaveKeys f table more

-- what was read before was read
abbrev pub KeepsRead : List Found → List Found → Type 0
KeepsRead old new = (p : RecId) → WasRead old p → WasRead new p
