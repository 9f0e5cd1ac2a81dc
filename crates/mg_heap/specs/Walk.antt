-- The walk over the records of a table, in the order of its data pages and their slots.
use Rattle.std.specs.Prelude.{◌≡◌, ◌≢◌, ◌<◌, ◌≤◌, ◌⊎◌, ◌+◌, ◌==◌, ◌||◌, ℕ, Bool, true, false, List, [], ◌∷◌, Option, None, Some, length, slice_index, Ok, if◌then◌else◌}
use Rattle.mg_base.specs.Disk.{Meaning}
use Rattle.mg_base.specs.Fields.{byte}
use Rattle.mg_base.specs.declared.numbers.PageNo.{PageNo}
use Rattle.mg_base.specs.declared.numbers.RecId.{RecId}
use Rattle.mg_image.specs.Form.{Pages}
use Rattle.mg_image.specs.declared.entry.TheConstants.{PRIMARY_VERSION}
use Rattle.mg_pool.specs.declared.batch.BatchPage.{BatchPage}
use Rattle.mg_pool.specs.declared.pool.Pool.{Pool}
use Rattle.mg_slots.specs.Damage.{IsFirstDamage}
use Rattle.mg_slots.specs.DataPage.{IsDataPage, cell_of}
use Rattle.mg_slots.specs.Verdict.{common_verdict}
use Rattle.mg_slots.specs.declared.page.TheConstants.{DATA_KIND}
use Rattle.mg_space.specs.Lawful.{readable}
use Rattle.mg_version.specs.declared.cell.TheConstants.{ANCHOR}
use Rattle.mg_space.specs.declared.fault.SpaceFault.{SpaceFault}
use Rattle.mg_space.specs.declared.fault.SpaceFault.TheVariants as faults
use Rattle.mg_base.specs.declared.damage.Damaged.{Damaged}
use Rattle.mg_heap.specs.Places.{FindsPlace, RefusesPlace}
use Rattle.mg_heap.specs.Reading.{IsAbsence, RefusesData, sequence_in}
use Rattle.mg_heap.specs.Table.{IsBrokenChain, IsTable, link_damage}

-- whether a slot is the primary slot of a record: its cell is an anchor, or a version that stands in
-- its primary slot
abbrev pub is_primary : Option (List ℕ) → Bool
is_primary None = false
is_primary (Some bytes) = byte bytes 0 == ANCHOR || byte bytes 0 == PRIMARY_VERSION

-- The first primary slot of a page from a slot on.
pub record IsFirstRecord (b : List ℕ) (n from : ℕ) (x : RecId) : Type 0 where
  pub page : x.page.0 ≡ n
  pub not_before : from ≤ x.slot
  pub primary : is_primary (cell_of b x.slot) ≡ true
  pub first : (slot : ℕ) → from ≤ slot → slot < x.slot → is_primary (cell_of b slot) ≡ false

-- no slot of a page from a slot on is the primary slot of a record
abbrev pub HasNoRecord : List ℕ → ℕ → Type 0
HasNoRecord b from = (slot : ℕ) → from ≤ slot → is_primary (cell_of b slot) ≡ false

-- what is looked for on one page
abbrev pub FindsRecord : List ℕ → ℕ → ℕ → Option RecId → Type 0
FindsRecord b n from None = HasNoRecord b from
FindsRecord b n from (Some x) = IsFirstRecord b n from x

-- the first record of some pages, from a slot of the first of them on
abbrev pub IsNextIn : Pages → List ℕ → ℕ → Option RecId → Type 0
IsNextIn pages [] from found = found ≡ None
IsNextIn pages (n ∷ ns) from found = ((x : RecId) × (found ≡ Some x) × IsFirstRecord (pages n) n from x)
    ⊎ (HasNoRecord (pages n) from × IsNextIn pages ns 0 found)

-- the numbers of a list behind the first place of a number
abbrev pub behind : List ℕ → ℕ → List ℕ
behind [] n = []
behind (m ∷ ms) n = if m == n then ms else behind ms n

-- the record behind another, or the first one, in the order of a list of data pages and their slots
abbrev pub IsNext : Pages → List ℕ → Option RecId → Option RecId → Type 0
IsNext pages data_pages None found = IsNextIn pages data_pages 0 found
IsNext pages data_pages (Some x) found =
    IsNextIn pages (x.page.0 ∷ behind data_pages x.page.0) (x.slot + 1) found

-- No record stands on the data page at a place of a table.
pub record IsEmptyPlace (pages : Pages) (owner place : ℕ) : Type 0 where
  pub page : PageNo
  pub found : FindsPlace pages owner place (Some page)
  pub none : HasNoRecord (pages page.0) 0

-- no record stands on the data pages of a table from a place on, up to another
abbrev pub AreEmpty : Pages → ℕ → ℕ → ℕ → Type 0
AreEmpty pages owner start end =
    (place : ℕ) → start ≤ place → place < end → IsEmptyPlace pages owner place

-- the first record on the data page at a place of a table, or that there is no page
abbrev pub GivesAt : Pages → ℕ → ℕ → Option RecId → Type 0
GivesAt pages owner place None = FindsPlace pages owner place None
GivesAt pages owner place (Some x) =
    (page : PageNo) × FindsPlace pages owner place (Some page) × IsFirstRecord (pages page.0) page.0 0 x

-- The first record on the data pages of a table from a place on, in the order of their places, or that
-- there is none: it stands on the first of them that is not empty.
pub record GivesFrom (pages : Pages) (owner start : ℕ) (found : Option RecId) : Type 0 where
  pub place : ℕ
  pub from : start ≤ place
  pub empty : AreEmpty pages owner start place
  pub gives : GivesAt pages owner place found

-- The first record of a table behind a page which names a place: the table has the page there.
pub record GivesBehind (pages : Pages) (owner : ℕ) (page : PageNo) (place : ℕ) (found : Option RecId)
    : Type 0 where
  pub listed : FindsPlace pages owner place (Some page)
  pub gives : GivesFrom pages owner (place + 1) found

-- The record behind another, or the first one, in the order of the places of a table's data pages and of
-- their slots: there is one at most. It stands on the page of the other, or, where that is the last one
-- there, behind its page.
abbrev pub GivesNext : Pages → ℕ → Option RecId → Option RecId → Type 0
GivesNext pages owner None found = GivesFrom pages owner 0 found
GivesNext pages owner (Some x) found =
    ((y : RecId) × (found ≡ Some y) × IsFirstRecord (pages x.page.0) x.page.0 (x.slot + 1) y)
    ⊎ (HasNoRecord (pages x.page.0) (x.slot + 1)
    × GivesBehind pages owner x.page (sequence_in (pages x.page.0)) found)

-- why a page with these bytes is not read as the data page of an owner at a place, but for faults of
-- the cache
abbrev pub RefusesTableData : {D L : Type 0} → Meaning D → Pool D L → List BatchPage → List ℕ → ℕ → ℕ
    → PageNo → SpaceFault → Type 0
RefusesTableData m store batch b owner at n (faults.Full limit) = ⊥
RefusesTableData m store batch b owner at n (faults.Damaged damage) =
    IsAbsence m store batch n damage ⊎ IsFirstDamage b n owner at damage
RefusesTableData m store batch b owner at n (faults.Pool fault) = Unit {0}

-- a page is readable, and is the data page of an owner at a place
pub record HoldsTableData {D L : Type 0} (store : Pool D L) (batch : List BatchPage) (owner at : ℕ)
    (n : PageNo) : Type 0 where
  pub bytes : List ℕ
  pub read : readable store batch n.0 ≡ Some bytes
  pub common : common_verdict bytes n DATA_KIND owner at ≡ Ok tt
  pub lawful : IsDataPage bytes

-- One of the listed data pages is not as wanted at its place.
pub record IsBrokenPage {D L : Type 0} (m : Meaning D) (store : Pool D L) (batch : List BatchPage)
    (pages : Pages) (owner : ℕ) (data_pages : List ℕ) (fault : SpaceFault) : Type 0 where
  pub place : ℕ
  pub inside : place < length data_pages
  pub page : PageNo
  pub listed : slice_index data_pages place ≡ page.0
  pub refused : RefusesTableData m store batch (pages page.0) owner place page fault

-- why some data pages of a list are not walked, but for faults of the cache
abbrev pub RefusesWalkOf : {D L : Type 0} → Meaning D → Pool D L → List BatchPage → Pages → ℕ → List ℕ
    → SpaceFault → Type 0
RefusesWalkOf m store batch pages owner data_pages (faults.Full limit) = ⊥
RefusesWalkOf m store batch pages owner data_pages (faults.Damaged damage) =
    IsBrokenPage m store batch pages owner data_pages (faults.Damaged damage)
RefusesWalkOf m store batch pages owner data_pages (faults.Pool fault) = Unit {0}

-- A table's pages are found, and one of its data pages is not as wanted at its place.
pub record IsBrokenTable {D L : Type 0} (m : Meaning D) (store : Pool D L) (batch : List BatchPage)
    (pages : Pages) (owner : ℕ) (fault : SpaceFault) : Type 0 where
  pub pointers : List ℕ
  pub data_pages : List ℕ
  pub table : IsTable pages owner pointers data_pages
  pub broken : IsBrokenPage m store batch pages owner data_pages fault

-- why the data pages of a table are not walked, but for faults of the cache
abbrev pub RefusesWalk : {D L : Type 0} → Meaning D → Pool D L → List BatchPage → Pages → ℕ
    → SpaceFault → Type 0
RefusesWalk m store batch pages owner (faults.Full limit) = ⊥
RefusesWalk m store batch pages owner (faults.Damaged damage) =
    IsBrokenChain m store batch pages owner (faults.Damaged damage)
    ⊎ IsBrokenTable m store batch pages owner (faults.Damaged damage)
RefusesWalk m store batch pages owner (faults.Pool fault) = Unit {0}

-- The data page at a place of a table is not as wanted there.
pub record IsBrokenPlace {D L : Type 0} (m : Meaning D) (store : Pool D L) (batch : List BatchPage)
    (pages : Pages) (owner place : ℕ) (fault : SpaceFault) : Type 0 where
  pub page : PageNo
  pub found : FindsPlace pages owner place (Some page)
  pub refused : RefusesTableData m store batch (pages page.0) owner place page fault

-- Behind empty data pages of a table, from a place on, the next one is not found, or not as wanted.
pub record StopsAt {D L : Type 0} (m : Meaning D) (store : Pool D L) (batch : List BatchPage)
    (pages : Pages) (owner start : ℕ) (fault : SpaceFault) : Type 0 where
  pub place : ℕ
  pub from : start ≤ place
  pub empty : AreEmpty pages owner start place
  pub refused : RefusesPlace m store batch pages owner place fault
      ⊎ IsBrokenPlace m store batch pages owner place fault

-- why the first record from a place on is not found, but for faults of the cache
abbrev pub RefusesFrom : {D L : Type 0} → Meaning D → Pool D L → List BatchPage → Pages → ℕ → ℕ
    → SpaceFault → Type 0
RefusesFrom m store batch pages owner start (faults.Full limit) = ⊥
RefusesFrom m store batch pages owner start (faults.Damaged damage) =
    StopsAt m store batch pages owner start (faults.Damaged damage)
RefusesFrom m store batch pages owner start (faults.Pool fault) = Unit {0}

-- A page is not the one that a table has at a place.
pub record IsMisplaced (pages : Pages) (owner : ℕ) (page : PageNo) (place : ℕ) (damage : Damaged)
    : Type 0 where
  pub there : Option PageNo
  pub found : FindsPlace pages owner place there
  pub other : there ≢ Some page
  pub is : damage ≡ link_damage page page.0 0

-- why no record behind a page which names a place is found, but for faults of the cache: the page of that
-- place is not found, or is another one, or the pages behind it are not walked
abbrev pub RefusesBehind : {D L : Type 0} → Meaning D → Pool D L → List BatchPage → Pages → ℕ → PageNo
    → ℕ → SpaceFault → Type 0
RefusesBehind m store batch pages owner page place (faults.Full limit) = ⊥
RefusesBehind m store batch pages owner page place (faults.Damaged damage) =
    RefusesPlace m store batch pages owner place (faults.Damaged damage)
    ⊎ (IsMisplaced pages owner page place damage
    ⊎ RefusesFrom m store batch pages owner (place + 1) (faults.Damaged damage))
RefusesBehind m store batch pages owner page place (faults.Pool fault) = Unit {0}

-- why the record behind another is not found: its own page is none, or it is the last one there, and
-- none is found behind its page
abbrev pub RefusesNext : {D L : Type 0} → Meaning D → Pool D L → List BatchPage → Pages → ℕ
    → Option RecId → SpaceFault → Type 0
RefusesNext m store batch pages owner None fault = RefusesFrom m store batch pages owner 0 fault
RefusesNext m store batch pages owner (Some x) fault =
    RefusesData m store batch x.page (pages x.page.0) fault
    ⊎ (HasNoRecord (pages x.page.0) (x.slot + 1)
    × RefusesBehind m store batch pages owner x.page (sequence_in (pages x.page.0)) fault)
