-- A data page of a table with room for a cell, the last one before the others, and the table's growth
-- where none has room.
use Rattle.std.specs.Prelude.{◌≡◌, ◌<◌, ◌≤◌, ◌⊎◌, ◌-◌, ◌==◌, ℕ, List, length, Option, None, Some, slice_index, if◌then◌else◌}
use Rattle.mg_base.specs.Disk.{Meaning}
use Rattle.mg_base.specs.Image.{Image}
use Rattle.mg_base.specs.declared.damage.Damaged.{Damaged}
use Rattle.mg_base.specs.declared.damage.Field.TheVariants.{Count}
use Rattle.mg_base.specs.declared.numbers.PageNo.{PageNo}
use Rattle.mg_base.specs.declared.numbers.RecId.{RecId}
use Rattle.mg_image.specs.Form.{Pages}
use Rattle.mg_pool.specs.Batch.{Changed}
use Rattle.mg_pool.specs.declared.batch.BatchPage.{BatchPage}
use Rattle.mg_pool.specs.declared.pool.Pool.{Pool}
use Rattle.mg_slots.specs.DataPage.{IsDataPage}
use Rattle.mg_slots.specs.Room.{least_free, need_of, room_of}
use Rattle.mg_slots.specs.declared.change.NoRoom.{NoRoom}
use Rattle.mg_space.specs.Lawful.{readable}
use Rattle.mg_space.specs.View.{viewed}
use Rattle.mg_space.specs.declared.fault.SpaceFault.{SpaceFault}
use Rattle.mg_space.specs.declared.fault.SpaceFault.TheVariants as faults
use Rattle.mg_heap.specs.Changing.{ChangesOne, PutsCellAt}
use Rattle.mg_heap.specs.Growth.{GrowsTable, RefusesGrowth}
use Rattle.mg_heap.specs.Reading.{IsSomeData, RefusesData}
use Rattle.mg_heap.specs.Table.{IsTable, RefusesTable}
use Rattle.mg_heap.specs.Walk.{RefusesWalkOf}

-- a data page, and its content where it was found or made
pub record GivenPage : Type 0 where
  pub page : PageNo
  pub bytes : List ℕ

-- a page as it is found among these pages
abbrev pub found_in : Pages → PageNo → GivenPage
found_in pages page = record { page = page; bytes = pages page.0 }

-- a page can be read without the disk, and what is read is a data page with room for so many bytes
pub record HoldsRoom {D L : Type 0} (store : Pool D L) (batch : List BatchPage) (need : ℕ)
    (page : PageNo) : Type 0 where
  pub bytes : List ℕ
  pub read : readable store batch page.0 ≡ Some bytes
  pub lawful : IsDataPage bytes
  pub room : need ≤ room_of bytes

-- one page was looked at: it has room, or it has not
abbrev pub LooksAt : Pages → ℕ → ℕ → Option PageNo → Type 0
LooksAt pages n need None = room_of (pages n) < need
LooksAt pages n need (Some page) = (page.0 ≡ n) × (need ≤ room_of (pages n))

-- the place that is looked at after so many others: the last one first, then the others in their order
abbrev pub looked_at : ℕ → ℕ → ℕ
looked_at k len = if k == 0 then len - 1 else k - 1

-- The page was found by looking at the places in that order.
pub record IsFirstWithRoom (pages : Pages) (data_pages : List ℕ) (need : ℕ) (it : GivenPage)
    : Type 0 where
  pub after : ℕ
  pub inside : after < length data_pages
  pub page_is : it.page.0 ≡ slice_index data_pages (looked_at after (length data_pages))
  pub bytes_are : it.bytes ≡ pages it.page.0
  pub room : need ≤ room_of (pages it.page.0)
  pub earlier : (k : ℕ) → k < after
      → room_of (pages (slice_index data_pages (looked_at k (length data_pages)))) < need

-- none of these pages has room
abbrev pub NoneHasRoom : Pages → List ℕ → ℕ → Type 0
NoneHasRoom pages data_pages need =
    (place : ℕ) → place < length data_pages → room_of (pages (slice_index data_pages place)) < need

-- a page was found, or none has room
abbrev pub FindsRoom : Pages → List ℕ → ℕ → Option PageNo → Type 0
FindsRoom pages data_pages need None = NoneHasRoom pages data_pages need
FindsRoom pages data_pages need (Some page) =
    IsFirstWithRoom pages data_pages need (found_in pages page)

-- A page with room was found and the batch is as before, or no data page has room, and the table has
-- got one more, behind its last pointer page.
abbrev pub FindsOrGrows : {D L : Type 0} → Pool D L → Image → Changed → Changed → ℕ → List ℕ → List ℕ → ℕ
    → GivenPage → Type 0
FindsOrGrows store image old new owner pointers data_pages need it =
    ((new ≡ old) × IsFirstWithRoom (viewed store image old) data_pages need it)
    ⊎ (NoneHasRoom (viewed store image old) data_pages need
    × GrowsTable store.geometry store image old new owner (length data_pages) (length pointers - 1)
    (slice_index pointers (length pointers - 1))
    (viewed store image old (slice_index pointers (length pointers - 1))) it.page.0 it.bytes)

-- a page was found so, or the table has got it
pub record GivesIn {D L : Type 0} (store : Pool D L) (image : Image) (old new : Changed) (owner : ℕ)
    (pointers data_pages : List ℕ) (need : ℕ) (n : PageNo) : Type 0 where
  pub it : GivenPage
  pub page_is : it.page ≡ n
  pub found : FindsOrGrows store image old new owner pointers data_pages need it

-- the same, in the table that begins with a pointer page
pub record GivesRoom {D L : Type 0} (store : Pool D L) (image : Image) (old new : Changed)
    (owner need : ℕ) (n : PageNo) : Type 0 where
  pub pointers : List ℕ
  pub data_pages : List ℕ
  pub table : IsTable (viewed store image old) owner pointers data_pages
  pub it : GivenPage
  pub page_is : it.page ≡ n
  pub found : FindsOrGrows store image old new owner pointers data_pages need it

-- why no page with room is found, but for faults of the cache: one of the data pages is not as wanted,
-- or the table does not grow
abbrev pub RefusesRoomIn : {D L : Type 0} → Meaning D → Pool D L → Pool D L → Image → Changed → ℕ
    → List ℕ → List ℕ → SpaceFault → Type 0
RefusesRoomIn m old new image batch owner pointers data_pages fault =
    RefusesWalkOf m new batch.pages (viewed old image batch) owner data_pages fault
    ⊎ RefusesGrowth m old new image batch owner (length pointers - 1)
    (record { 0 = slice_index pointers (length pointers - 1) }) fault

-- The pages of a table are found, and in it no page with room, nor a new one.
pub record RefusesRoomOf {D L : Type 0} (m : Meaning D) (old new : Pool D L) (image : Image)
    (batch : Changed) (owner : ℕ) (fault : SpaceFault) : Type 0 where
  pub pointers : List ℕ
  pub data_pages : List ℕ
  pub table : IsTable (viewed old image batch) owner pointers data_pages
  pub refused : RefusesRoomIn m old new image batch owner pointers data_pages fault

-- why no page with room is given
abbrev pub RefusesRoom : {D L : Type 0} → Meaning D → Pool D L → Pool D L → Image → Changed → ℕ
    → SpaceFault → Type 0
RefusesRoom m old new image batch owner fault =
    RefusesTable m new batch.pages (viewed old image batch) owner fault
    ⊎ RefusesRoomOf m old new image batch owner fault

-- The cell stands in the least free slot of a page.
pub record PutsIn (old new : Pages) (page : PageNo) (cell : List ℕ) (at : RecId) : Type 0 where
  pub page_is : at.page ≡ page
  pub least : at.slot ≡ least_free (old at.page.0)
  pub puts : PutsCellAt old new at cell

-- A cell is added: a page with room was given, between whose giving and the end the batch is `given`,
-- and the cell was put into its least free slot.
pub record AddsCell {D L : Type 0} (store : Pool D L) (image : Image) (old new : Changed) (owner : ℕ)
    (cell : List ℕ) (at : RecId) : Type 0 where
  pub given : Changed
  pub gives : GivesRoom store image old given owner (need_of cell) at.page
  pub one : ChangesOne store.geometry.size given new at.page.0
  pub puts : PutsIn (viewed store image given) (viewed store image new) at.page cell at

-- how many bytes a cell needs, and how many it may take
abbrev pub lack_of : ℕ → ℕ → NoRoom
lack_of need room = record { need = need; room = room }

-- a page on which a cell has no room: found is what the cell needs, wanted what it may take
abbrev pub room_damage : PageNo → NoRoom → Damaged
room_damage page lack = record { page = page; field = Count; found = lack.need; wanted = lack.room }

-- A cell has no room on a data page, and the fault is the damage of the page that tells so.
pub record HasNoRoom (page : PageNo) (b cell : List ℕ) (fault : SpaceFault) : Type 0 where
  pub data_page : IsSomeData page b
  pub small : room_of b < need_of cell
  pub is : fault ≡ faults.Damaged (room_damage page (lack_of (need_of cell) (room_of b)))

-- why a cell is not put into the least free slot of a page, but for faults of the cache: it is no data
-- page, or the cell has no room there
abbrev pub RefusesPutIn : {D L : Type 0} → Meaning D → Pool D L → Changed → List ℕ → PageNo → List ℕ
    → SpaceFault → Type 0
RefusesPutIn m store batch b page cell fault =
    RefusesData m store batch.pages page b fault ⊎ HasNoRoom page b cell fault

-- a page was given, and the cell was not put there: it is no data page, or has no room
pub record RefusesPut {D L : Type 0} (m : Meaning D) (old new : Pool D L) (image : Image)
    (batch : Changed) (owner : ℕ) (cell : List ℕ) (fault : SpaceFault) : Type 0 where
  pub given : Changed
  pub page : PageNo
  pub gives : GivesRoom old image batch given owner (need_of cell) page
  pub refused : RefusesPutIn m new given (viewed old image given page.0) page cell fault

-- why a cell is not added
abbrev pub RefusesAdd : {D L : Type 0} → Meaning D → Pool D L → Pool D L → Image → Changed → ℕ → List ℕ
    → SpaceFault → Type 0
RefusesAdd m old new image batch owner cell fault =
    RefusesRoom m old new image batch owner fault ⊎ RefusesPut m old new image batch owner cell fault
