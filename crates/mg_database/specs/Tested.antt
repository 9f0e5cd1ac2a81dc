-- The pages of the catalog are tested when a database is opened: as pages, and nothing of what stands in them.
use Rattle.std.specs.Prelude.{◌≡◌, ◌⊎◌, ◌+◌, ◌||◌, ℕ, Bool, List, Ok, length, take}
use Rattle.mg_base.specs.Disk.{Meaning}
use Rattle.mg_heap.specs.Reads.{is_listed}
use Rattle.mg_heap.specs.Table.{IsBrokenChain, IsTable}
use Rattle.mg_heap.specs.Walk.{IsBrokenPage}
use Rattle.mg_image.specs.Form.{Pages}
use Rattle.mg_image.specs.Tables.{EachFrom}
use Rattle.mg_pool.specs.Reading.{ReadsPages}
use Rattle.mg_pool.specs.declared.batch.BatchPage.{BatchPage}
use Rattle.mg_pool.specs.declared.pool.Pool.{Pool}
use Rattle.mg_slots.specs.DataPage.{IsDataPage}
use Rattle.mg_slots.specs.Verdict.{common_verdict}
use Rattle.mg_slots.specs.declared.page.TheConstants.{DATA_KIND}
use Rattle.mg_space.specs.declared.fault.SpaceFault.{SpaceFault}
use Rattle.mg_space.specs.declared.fault.SpaceFault.TheVariants as space

-- A page is the data page of an owner at a place of its list.
pub record IsDataAt (pages : Pages) (owner at n : ℕ) : Type 0 where
  pub common : common_verdict (pages n) (record { 0 = n }) DATA_KIND owner at ≡ Ok tt
  pub lawful : IsDataPage (pages n)

-- these are data pages of an owner, each at its place
abbrev pub AreDataPages : Pages → ℕ → List ℕ → Type 0
AreDataPages pages owner data_pages = EachFrom (IsDataAt pages owner) 0 data_pages

-- The pages of a table are as wanted: its pointer pages, and the data pages that they list.
pub record IsTested (pages : Pages) (owner : ℕ) (pointers data_pages : List ℕ) : Type 0 where
  pub table : IsTable pages owner pointers data_pages
  pub listed : AreDataPages pages owner data_pages

-- One of the listed data pages is not as wanted at its place, and those before it are.
pub record IsFirstBroken {D L : Type 0} (m : Meaning D) (store : Pool D L) (batch : List BatchPage)
    (pages : Pages) (owner : ℕ) (data_pages : List ℕ) (fault : SpaceFault) : Type 0 where
  pub broken : IsBrokenPage m store batch pages owner data_pages fault
  pub before : AreDataPages pages owner (take broken.place data_pages)

-- The pointer pages of a table are as wanted, and one of its data pages is not, the first such.
pub record HasFirstBroken {D L : Type 0} (m : Meaning D) (store : Pool D L) (batch : List BatchPage)
    (pages : Pages) (owner : ℕ) (fault : SpaceFault) : Type 0 where
  pub pointers : List ℕ
  pub data_pages : List ℕ
  pub table : IsTable pages owner pointers data_pages
  pub first : IsFirstBroken m store batch pages owner data_pages fault

-- why listed data pages do not pass, but for faults of the cache
abbrev pub RefusesListed : {D L : Type 0} → Meaning D → Pool D L → List BatchPage → Pages → ℕ → List ℕ
    → SpaceFault → Type 0
RefusesListed m store batch pages owner data_pages (space.Full limit) = ⊥
RefusesListed m store batch pages owner data_pages (space.Damaged it) =
    IsFirstBroken m store batch pages owner data_pages (space.Damaged it)
RefusesListed m store batch pages owner data_pages (space.Pool fault) = Unit {0}

-- why the pages of a table do not pass, but for faults of the cache: the first that is not as wanted is one of its
-- pointer pages, or a data page
abbrev pub RefusesTested : {D L : Type 0} → Meaning D → Pool D L → List BatchPage → Pages → ℕ → SpaceFault
    → Type 0
RefusesTested m store batch pages owner (space.Full limit) = ⊥
RefusesTested m store batch pages owner (space.Damaged it) =
    IsBrokenChain m store batch pages owner (space.Damaged it)
    ⊎ HasFirstBroken m store batch pages owner (space.Damaged it)
RefusesTested m store batch pages owner (space.Pool fault) = Unit {0}

-- whether a page is one of a table's
abbrev pub is_of_table : List ℕ → List ℕ → ℕ → Bool
is_of_table pointers data_pages n = is_listed pointers n || is_listed data_pages n

-- the pages of a table were looked for: no more page reads were asked for than there are, and none of another page
abbrev pub ReadsTable : {D L : Type 0} → Meaning D → Pool D L → Pool D L → List ℕ → List ℕ → Type 0
ReadsTable m old new pointers data_pages = ReadsPages m old new (length pointers + length data_pages)
    (is_of_table pointers data_pages)
