-- A cell is added to a table apart from a place that is to be filled after it: where both come to stand
-- on one page, the place stays free, and has room for an anchor.
use Rattle.std.specs.Prelude.{◌≡◌, ◌≢◌, ◌<◌, ◌≤◌, ◌⊎◌, ◌+◌, ◌==◌, ℕ, List, length, Option, None, Some, if◌then◌else◌}
use Rattle.mg_base.specs.Disk.{Meaning}
use Rattle.mg_base.specs.Image.{Image}
use Rattle.mg_base.specs.declared.damage.Damaged.{Damaged}
use Rattle.mg_base.specs.declared.numbers.PageNo.{PageNo}
use Rattle.mg_base.specs.declared.numbers.RecId.{RecId}
use Rattle.mg_image.specs.Form.{Pages}
use Rattle.mg_pool.specs.Batch.{Changed}
use Rattle.mg_pool.specs.declared.pool.Pool.{Pool}
use Rattle.mg_slots.specs.Changes.{PutsCell, SetsCell}
use Rattle.mg_slots.specs.DataPage.{cell_of}
use Rattle.mg_slots.specs.Room.{least_free, need_of, room_for, room_of}
use Rattle.mg_slots.specs.declared.change.NoRoom.{NoRoom}
use Rattle.mg_slots.specs.declared.page.TheConstants.{LEAST_TAKEN}
use Rattle.mg_space.specs.View.{viewed}
use Rattle.mg_space.specs.declared.fault.SpaceFault.{SpaceFault}
use Rattle.mg_space.specs.declared.fault.SpaceFault.TheVariants as faults
use Rattle.mg_heap.specs.Changing.{ChangesOne}
use Rattle.mg_heap.specs.Reading.{IsSomeData, RefusesData}
use Rattle.mg_heap.specs.Room.{GivesRoom, RefusesRoom, lack_of, room_damage}

-- the room that a page has to have: for the cell, and for an anchor with its slot
abbrev pub need_with_anchor : List ℕ → ℕ
need_with_anchor cell = need_of cell + 15

-- the slot that is kept free on a page: that of the place, where it is on the page
abbrev pub kept_on : PageNo → RecId → Option ℕ
kept_on page place = if page.0 == place.page.0 then Some place.slot else None

-- A slot of a page is the least free one, and has room for an anchor.
pub record HasPlace (b : List ℕ) (slot : ℕ) : Type 0 where
  pub least : slot ≡ least_free b
  pub room : LEAST_TAKEN ≤ room_of b

-- A cell is put into a free slot of a data page, another one than this; where this was the least free one, it is
-- so still, and keeps room for an anchor.
pub record PutsBeside (old new : List ℕ) (kept : Option ℕ) (cell : List ℕ) (slot : ℕ) : Type 0 where
  pub apart : kept ≢ Some slot
  pub was_free : cell_of old slot ≡ None
  pub sets : SetsCell old new slot (Some cell)
  pub stays : (place : ℕ) → kept ≡ Some place → place ≡ least_free old → HasPlace new place

-- A cell is put into a free slot of a page, another one than this place; where this was the least free slot of the
-- page, it is so still, and keeps room for an anchor. No other cell of the page has changed, and no other page.
pub record PutsApart (old new : Pages) (place at : RecId) (cell : List ℕ) : Type 0 where
  pub data_page : IsSomeData at.page (old at.page.0)
  pub apart : at.page.0 ≡ place.page.0 → at.slot ≢ place.slot
  pub was_free : cell_of (old at.page.0) at.slot ≡ None
  pub sets : SetsCell (old at.page.0) (new at.page.0) at.slot (Some cell)
  pub stays : at.page.0 ≡ place.page.0 → place.slot ≡ least_free (old at.page.0)
      → HasPlace (new at.page.0) place.slot
  pub others : (n : ℕ) → n ≢ at.page.0 → new n ≡ old n

-- A cell is added: a page with room was given, between whose giving and the end the batch is `given`,
-- and the cell was put there apart from the place.
pub record AddsApart {D L : Type 0} (store : Pool D L) (image : Image) (old new : Changed)
    (owner : ℕ) (place : RecId) (cell : List ℕ) (at : RecId) : Type 0 where
  pub given : Changed
  pub gives : GivesRoom store image old given owner (need_with_anchor cell) at.page
  pub one : ChangesOne store.geometry.size given new at.page.0
  pub puts : PutsApart (viewed store image given) (viewed store image new) place at cell

-- The least free slot of a page is held: bytes as long as an anchor are put there.
pub record HoldsSlot (b held : List ℕ) (slot : ℕ) : Type 0 where
  pub least : slot ≡ least_free b
  pub anchor : List ℕ
  pub len : length anchor ≡ LEAST_TAKEN
  pub puts : PutsCell b held slot anchor

-- a cell needs more bytes than it may take, and both numbers are told
pub record LacksRoom (need room : ℕ) (lack : NoRoom) : Type 0 where
  pub less : room < need
  pub is : lack ≡ lack_of need room

-- the slot of a page is held, and beside it the cell has no room
pub record HasNoRoomHeld (b : List ℕ) (slot : ℕ) (cell : List ℕ) (lack : NoRoom) : Type 0 where
  pub held : List ℕ
  pub holds : HoldsSlot b held slot
  pub lacks : LacksRoom (need_of cell) (room_of held) lack

-- An anchor holds a slot that is kept: it has no room there, or the cell has none beside it.
abbrev pub HasNoRoomWith : List ℕ → Option ℕ → List ℕ → NoRoom → Type 0
HasNoRoomWith b None cell lack = ⊥
HasNoRoomWith b (Some kept) cell lack =
    LacksRoom LEAST_TAKEN (room_for b kept) lack ⊎ HasNoRoomHeld b kept cell lack

-- a cell has no room on a page, or none beside the slot that is kept
abbrev pub HasNoRoomBeside : List ℕ → Option ℕ → List ℕ → NoRoom → Type 0
HasNoRoomBeside b kept cell lack = LacksRoom (need_of cell) (room_of b) lack ⊎ HasNoRoomWith b kept cell lack

-- the damage of a page that tells of a cell which has no room there beside the slot that is kept
abbrev pub IsRoomDamage : PageNo → List ℕ → Option ℕ → List ℕ → Damaged → Type 0
IsRoomDamage page b kept cell damage =
    (lack : NoRoom) × HasNoRoomBeside b kept cell lack × (damage ≡ room_damage page lack)

-- A cell has no room on a data page apart from a place, and the fault is the damage of the page that tells so.
pub record HasNoRoomApart (page : PageNo) (b : List ℕ) (place : RecId) (cell : List ℕ) (fault : SpaceFault)
    : Type 0 where
  pub data_page : IsSomeData page b
  pub damage : Damaged
  pub lacks : IsRoomDamage page b (kept_on page place) cell damage
  pub is : fault ≡ faults.Damaged damage

-- why a cell is not put apart from a place on a page, but for faults of the cache: it is no data page, or
-- the cell has no room there
abbrev pub RefusesPutApart : {D L : Type 0} → Meaning D → Pool D L → Changed → List ℕ → PageNo → RecId
    → List ℕ → SpaceFault → Type 0
RefusesPutApart m store batch b page place cell fault =
    RefusesData m store batch.pages page b fault ⊎ HasNoRoomApart page b place cell fault

-- a page was given, and the cell was not put there
pub record RefusesApartThere {D L : Type 0} (m : Meaning D) (old new : Pool D L) (image : Image)
    (batch : Changed) (owner : ℕ) (place : RecId) (cell : List ℕ) (fault : SpaceFault) : Type 0 where
  pub given : Changed
  pub page : PageNo
  pub gives : GivesRoom old image batch given owner (need_with_anchor cell) page
  pub refused : RefusesPutApart m new given (viewed old image given page.0) page place cell fault

-- why a cell is not added apart from a place
abbrev pub RefusesAddApart : {D L : Type 0} → Meaning D → Pool D L → Pool D L → Image → Changed → ℕ
    → RecId → List ℕ → SpaceFault → Type 0
RefusesAddApart m old new image batch owner place cell fault =
    RefusesRoom m old new image batch owner fault
    ⊎ RefusesApartThere m old new image batch owner place cell fault
