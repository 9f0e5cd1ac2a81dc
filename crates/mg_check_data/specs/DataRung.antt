-- What is found on a data page of a table, and in its cells.
use Rattle.std.specs.Prelude.{◌≡◌, ◌<◌, ◌+◌, ◌==◌, ℕ, false, List, Option, Some, length, if◌then◌else◌}
use Rattle.mg_base.specs.Checks.{PassesAll, common_checks, verdict}
use Rattle.mg_base.specs.Image.{Image, page_at}
use Rattle.mg_base.specs.declared.damage.Damaged.{Damaged}
use Rattle.mg_base.specs.declared.damage.Field.TheVariants as fields
use Rattle.mg_check_data.specs.declared.data.DataSeat.{DataSeat}
use Rattle.mg_check_inventory.specs.ImagePages.{IsWholeImage, bit_checks, link_checks, numbered, presence_checks}
use Rattle.mg_findings.specs.declared.finding.Finding.{Finding}
use Rattle.mg_findings.specs.declared.finding.Rule.TheVariants.{Damage}
use Rattle.mg_findings.specs.Findings.{HasNone, OfFirst, Tells, damage_finding}
use Rattle.mg_header.specs.HeaderPage.{page_checks}
use Rattle.mg_image.specs.Form.{Pages}
use Rattle.mg_image.specs.Reached.{IsAsWanted}
use Rattle.mg_image.specs.Sound.{IsCellOf, IsTableData}
use Rattle.mg_slots.specs.declared.page.TheConstants.{DATA_KIND}
use Rattle.mg_slots.specs.DataPage.{IsDataPage, cell_of}
use Rattle.mg_slots.specs.Damage.{IsFirstDamage}
use Rattle.mg_version.specs.Cells.{RefusesCell}

-- something of a kind is found
abbrev pub HasOne : (Finding → Type 0) → Type 0
HasOne P = (f : Finding) × P f

-- what is wanted of a cell of a length, of which a front of a length begins a cell: the whole of
-- it; where it is cut short, one byte more
abbrev pub wanted_of : ℕ → ℕ → ℕ
wanted_of at len = if at == len then len + 1 else len

-- the finding of a slot's cell, of which so much begins a cell
abbrev pub cell_finding : ℕ → ℕ → ℕ → ℕ → Finding
cell_finding n slot at len = record {
  page = numbered n;
  slot = slot;
  what = Damage fields.Cell;
  found = at;
  wanted = wanted_of at len;
}

-- A slot of a page has bytes that spell no cell, and this is told of it.
pub record IsSlotFinding (b : List ℕ) (n slot : ℕ) (f : Finding) : Type 0 where
  pub bytes : List ℕ
  pub at : ℕ
  pub there : cell_of b slot ≡ Some bytes
  pub refused : RefusesCell bytes at
  pub is : f ≡ cell_finding n slot at (length bytes)

-- such a thing is found of one of the slots below a number
abbrev pub IsFoundBelow : List ℕ → ℕ → ℕ → Finding → Type 0
IsFoundBelow b n count f = (slot : ℕ) × (slot < count) × IsSlotFinding b n slot f

-- what is found of the cells of a page: each whose bytes spell none
abbrev pub IsCellFinding : List ℕ → ℕ → Finding → Type 0
IsCellFinding b n f = (slot : ℕ) × IsSlotFinding b n slot f

-- the bytes of a slot, if it has some, spell a cell
abbrev pub IsSlotCell : List ℕ → ℕ → Type 0
IsSlotCell b slot = (bytes : List ℕ) → cell_of b slot ≡ Some bytes → IsCellOf false bytes

-- so do those of each
abbrev pub HasCells : List ℕ → Type 0
HasCells b = (slot : ℕ) → IsSlotCell b slot

-- The data page of an owner at a place is as wanted, whatever its cells are.
pub record IsWantedData (size : ℕ) (pages : Pages) (owner at n : ℕ) : Type 0 where
  pub wanted : IsAsWanted size pages n (common_checks (pages n) n DATA_KIND owner at)
  pub lawful : IsDataPage (pages n)

-- the first field of a data page that differs
abbrev pub IsFieldFinding : List ℕ → DataSeat → Finding → Type 0
IsFieldFinding b seat f = (damage : Damaged)
    × IsFirstDamage b (numbered seat.page) seat.owner seat.place damage × (f ≡ damage_finding damage)

-- what is found of a data page as a whole, where it is there: the first field that differs; or else
-- that it is not marked as used
abbrev pub IsPageFinding : ℕ → Pages → DataSeat → Finding → Type 0
IsPageFinding size pages seat = OfFirst (IsFieldFinding (pages seat.page) seat)
    (Tells (verdict (numbered seat.page) (bit_checks size pages seat.page)))

-- what is found of it in a file with so many pages: that it is absent, or on it
abbrev pub IsThereFinding : ℕ → Pages → ℕ → DataSeat → Finding → Type 0
IsThereFinding size pages count seat = OfFirst
    (Tells (verdict (numbered seat.page) (presence_checks count seat.page)))
    (IsPageFinding size pages seat)

-- what is found of it, and of the link to it, at the page that holds the link
abbrev pub IsWholeFinding : ℕ → Pages → ℕ → DataSeat → Finding → Type 0
IsWholeFinding size pages count seat = OfFirst
    (Tells (verdict (numbered seat.holder) (link_checks seat.page)))
    (IsThereFinding size pages count seat)

-- what is found of a data page that a table names: one thing at most of the page as a whole, or
-- else of its cells each that is none
abbrev pub IsDataFinding : ℕ → Pages → ℕ → DataSeat → Finding → Type 0
IsDataFinding size pages count seat = OfFirst (IsWholeFinding size pages count seat)
    (IsCellFinding (pages seat.page) seat.page)

-- where the header page has the kind of one, nothing is found of a data page that is as a sound
-- image asks it
abbrev pub DataLaw : Type 0
DataLaw = (size : ℕ) (image : Image) → IsWholeImage size image
    → PassesAll (page_checks (page_at size image 0)) → (seat : DataSeat)
    → IsTableData false size (page_at size image) seat.owner seat.place seat.page
    → HasNone (IsDataFinding size (page_at size image) (length image) seat)
