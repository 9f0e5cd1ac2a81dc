-- What is read of several tables together: of each its records, one table after another.
use Rattle.std.specs.Prelude.{◌≡◌, ◌≤◌, false, List, [], ◌∷◌, length, map, if◌then◌else◌}
use Rattle.std.specs.List.{flat_map}
use Rattle.mg_value.specs.declared.shape.TheConstants.{MOST_COLUMNS}
use Rattle.mg_image.specs.Records.{Reading}
use Rattle.mg_image.specs.Sound.{HasTablePages}
use Rattle.mg_image.specs.Tables.{EachStand, IsOnce, Stand, has, pages_of}
use Rattle.mg_reading.specs.declared.found.Found.{Found}
use Rattle.mg_reading.specs.declared.image.Image.{Image}
use Rattle.mg_reading.specs.declared.point.ReadFault.{ReadFault}
use Rattle.mg_reading.specs.declared.point.ReadFault.TheVariants.{Broken, Memory}
use Rattle.mg_reading.specs.declared.point.Rule.{Rule}
use Rattle.mg_reading.specs.declared.rows.RowCoding.{RowCoding}
use Rattle.mg_reading.specs.Found.{AreOf, image_facts, reading_of}
use Rattle.mg_reading.specs.ImageView.{pages_in}
use Rattle.mg_reading.specs.Readable.{HasTableVersions, IsOnlyReading}
use Rattle.mg_reading.specs.RecordParts.{AreKeyed}
use Rattle.mg_soundness.specs.declared.records.TableRecords.{TableRecords}

-- the pages of a table are as wanted, and it has not too many columns
abbrev pub IsTested : Image → Stand → Type 0
IsTested image s = (length s.table.shape.columns ≤ MOST_COLUMNS)
    × HasTablePages false image.size (pages_in image) s

-- The pages of these tables are as wanted, and none is reached twice.
pub record AreTested (image : Image) (ss : List Stand) : Type 0 where
  pub once : IsOnce (flat_map pages_of ss)
  pub each : EachStand (IsTested image) ss

-- what was read of each of these tables
abbrev pub founds_in : List TableRecords → List (List Found)
founds_in records = map (λ r. r.found.items) records

-- what was read of the table that a place belongs to
abbrev pub joined : List Stand → List (List Found) → Reading
joined [] founds p = []
joined (s ∷ ss) [] p = []
joined (s ∷ ss) (found ∷ founds) p =
    if has s.data_pages p.page.0 then reading_of found p else joined ss founds p

-- there is one list for each table, and both have a property
abbrev pub EachTable : (Stand → List Found → Type 0) → List Stand → List (List Found) → Type 0
EachTable P [] [] = Unit {0}
EachTable P [] (found ∷ founds) = ⊥
EachTable P (s ∷ ss) [] = ⊥
EachTable P (s ∷ ss) (found ∷ founds) = P s found × EachTable P ss founds

-- each of these lists has a property
abbrev pub EachRead : (List Found → Type 0) → List (List Found) → Type 0
EachRead P [] = Unit {0}
EachRead P (found ∷ founds) = P found × EachRead P founds

-- what was read of a place twice is the same
abbrev pub AreSettled : List Found → Type 0
AreSettled found = AreOf (reading_of found) found

-- The records of a table have their versions, and these are what was read.
pub record IsTableRead (coding : RowCoding) (image : Image) (s : Stand) (found : List Found)
    : Type 0 where
  pub versions : HasTableVersions coding image s.table s.data_pages (reading_of found)
  pub settled : AreSettled found
  pub only : IsOnlyReading coding image s.table s.data_pages (reading_of found)

-- each record of a table has one key, and no two take one
abbrev pub IsKeyed : Image → Stand → List Found → Type 0
IsKeyed image s found = AreKeyed (image_facts image) s.table (reading_of found)

-- a fault that says a rule broken names this one, and rules this out; want of memory says nothing
abbrev pub RefutesBy : Rule → Type 0 → ReadFault → Type 0
RefutesBy rule P (Broken named) = (named ≡ rule) × (P → ⊥)
RefutesBy rule P Memory = Unit {0}
