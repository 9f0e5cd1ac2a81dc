-- The last data page of a table, and whether it has room for a cell.
use Rattle.std.specs.Prelude.{◌≡◌, ◌<◌, ◌⊎◌, ◌+◌, ℕ, List, length, Option, None, Some, slice_index}
use Rattle.mg_base.specs.Disk.{Meaning}
use Rattle.mg_base.specs.declared.numbers.PageNo.{PageNo}
use Rattle.mg_image.specs.Form.{Pages}
use Rattle.mg_pool.specs.declared.batch.BatchPage.{BatchPage}
use Rattle.mg_pool.specs.declared.pool.Pool.{Pool}
use Rattle.mg_space.specs.declared.fault.SpaceFault.{SpaceFault}
use Rattle.mg_heap.specs.Room.{IsFirstWithRoom, found_in}
use Rattle.mg_heap.specs.Table.{IsTable, RefusesTable}
use Rattle.mg_heap.specs.Walk.{RefusesWalkOf}
use Rattle.mg_heap.specs.declared.room.LastPlace.{LastPlace}

-- A page is the last data page of a table, and stands at a place of it.
pub record IsLastPlace (pages : Pages) (owner : ℕ) (it : LastPlace) : Type 0 where
  pub pointers : List ℕ
  pub data_pages : List ℕ
  pub table : IsTable pages owner pointers data_pages
  pub last : it.at + 1 ≡ length data_pages
  pub listed : slice_index data_pages it.at ≡ it.page.0

-- the last data page of a table was found, or nothing
abbrev pub FindsLast : Pages → ℕ → Option LastPlace → Type 0
FindsLast pages owner None = Unit {0}
FindsLast pages owner (Some it) = IsLastPlace pages owner it

-- a page with its place, where there is a page
abbrev pub IsPlaced : Option PageNo → ℕ → Option LastPlace → Type 0
IsPlaced None at found = found ≡ None
IsPlaced (Some page) at found = found ≡ Some (record { page = page; at = at })

-- The page that was found is the first one with room, in the order in which they are looked at.
pub record HasFirst (pages : Pages) (owner need : ℕ) (page : PageNo) : Type 0 where
  pub pointers : List ℕ
  pub data_pages : List ℕ
  pub table : IsTable pages owner pointers data_pages
  pub first : IsFirstWithRoom pages data_pages need (found_in pages page)

-- a page with room was found, or nothing
abbrev pub GivesLast : Pages → ℕ → ℕ → Option PageNo → Type 0
GivesLast pages owner need None = Unit {0}
GivesLast pages owner need (Some page) = HasFirst pages owner need page

-- The pages of a table are found, and one of its data pages is not as wanted.
pub record RefusesLastOf {D L : Type 0} (m : Meaning D) (store : Pool D L) (batch : List BatchPage)
    (pages : Pages) (owner : ℕ) (fault : SpaceFault) : Type 0 where
  pub pointers : List ℕ
  pub data_pages : List ℕ
  pub table : IsTable pages owner pointers data_pages
  pub refused : RefusesWalkOf m store batch pages owner data_pages fault

-- why the last data page is not looked at, but for faults of the cache
abbrev pub RefusesLast : {D L : Type 0} → Meaning D → Pool D L → List BatchPage → Pages → ℕ
    → SpaceFault → Type 0
RefusesLast m store batch pages owner fault =
    RefusesTable m store batch pages owner fault ⊎ RefusesLastOf m store batch pages owner fault
