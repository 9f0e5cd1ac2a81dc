-- The data page at a place of a table, by the pointer page that lists it: those before that one in the
-- chain are passed, and none behind it is looked at.
use Rattle.std.specs.Prelude.{◌≡◌, ◌≢◌, ◌<◌, ◌≤◌, ◌+◌, ◌^◌, ◌∷◌, ◌++◌, ℕ, List, [], Option, None, Some, length, slice_index}
use Rattle.mg_base.specs.Disk.{Meaning}
use Rattle.mg_base.specs.declared.numbers.PageNo.{PageNo}
use Rattle.mg_image.specs.Form.{Pages}
use Rattle.mg_image.specs.Tables.{entries_in}
use Rattle.mg_pointer.specs.PointerPage.{entries_of, next_in}
use Rattle.mg_pool.specs.declared.batch.BatchPage.{BatchPage}
use Rattle.mg_pool.specs.declared.pool.Pool.{Pool}
use Rattle.mg_space.specs.declared.fault.SpaceFault.{SpaceFault}
use Rattle.mg_space.specs.declared.fault.SpaceFault.TheVariants as faults
use Rattle.mg_heap.specs.Table.{IsPointerAt, IsTable, LeadsTo, ListsPage, RefusesPointer}
use Rattle.mg_heap.specs.declared.lookup.Look.{Look}
use Rattle.mg_heap.specs.declared.lookup.Look.TheVariants.{Here, Past}
use Rattle.mg_heap.specs.declared.lookup.Reached.{Reached}
use Rattle.mg_heap.specs.declared.lookup.Reached.TheVariants.{At, End}

-- The first pointer pages of a table, each of them as wanted at its place, the data pages that they
-- list, and the page that they lead to: page 0 where they are all.
pub record IsFront (pages : Pages) (owner : ℕ) (pointers data_pages : List ℕ) (next : ℕ) : Type 0 where
  pub leads : LeadsTo pages owner pointers next
  pub entries : data_pages ≡ entries_in pages pointers

-- the page at a place of the data pages that first pointer pages list; none where these are all, and
-- list no page there
abbrev pub IsEntry : List ℕ → ℕ → ℕ → Option PageNo → Type 0
IsEntry data_pages next place None = (next ≡ 0) × (length data_pages ≤ place)
IsEntry data_pages next place (Some n) =
    (place < length data_pages) × (slice_index data_pages place ≡ n.0)

-- The data page at a place of a table has been found, or that the table has none there.
pub record FindsPlace (pages : Pages) (owner place : ℕ) (found : Option PageNo) : Type 0 where
  pub pointers : List ℕ
  pub data_pages : List ℕ
  pub next : ℕ
  pub front : IsFront pages owner pointers data_pages next
  pub is_entry : IsEntry data_pages next place found

-- A table ends before a place: so many data pages more would lead there.
pub record EndsBefore (pages : Pages) (owner place left : ℕ) : Type 0 where
  pub pointers : List ℕ
  pub data_pages : List ℕ
  pub front : IsFront pages owner pointers data_pages 0
  pub passed : left + length data_pages ≡ place

-- the data page at a place has been found, or the table ends before
abbrev pub Reaches : Pages → ℕ → ℕ → Reached → Type 0
Reaches pages owner place (At page) = FindsPlace pages owner place (Some page)
Reaches pages owner place (End left) = EndsBefore pages owner place left

-- a place at which a table has a data page is not the last place of all
abbrev pub IsFew : ℕ → Reached → Type 0
IsFew place (At page) = place + 1 < 2 ^ 32
IsFew place (End left) = Unit {0}

-- the page that was reached, if one was
abbrev pub IsPageIn : Reached → Option PageNo → Type 0
IsPageIn (At page) found = found ≡ Some page
IsPageIn (End left) found = found ≡ None

-- A table has so many data pages.
pub record HasCount (pages : Pages) (owner count : ℕ) : Type 0 where
  pub pointers : List ℕ
  pub data_pages : List ℕ
  pub table : IsTable pages owner pointers data_pages
  pub count_is : count ≡ length data_pages

-- Pointer pages of a table that list no page at a place yet lead to one that is not followed.
pub record BreaksBefore {D L : Type 0} (m : Meaning D) (store : Pool D L) (batch : List BatchPage)
    (pages : Pages) (owner place : ℕ) (fault : SpaceFault) : Type 0 where
  pub pointers : List ℕ
  pub page : PageNo
  pub leads : LeadsTo pages owner pointers page.0
  pub some : page.0 ≢ 0
  pub before : length (entries_in pages pointers) ≤ place
  pub refused : RefusesPointer m store batch pages owner pointers page fault

-- why the data page at a place is not found, but for faults of the cache: the chain breaks before
abbrev pub RefusesPlace : {D L : Type 0} → Meaning D → Pool D L → List BatchPage → Pages → ℕ → ℕ
    → SpaceFault → Type 0
RefusesPlace m store batch pages owner place (faults.Full limit) = ⊥
RefusesPlace m store batch pages owner place (faults.Damaged damage) =
    BreaksBefore m store batch pages owner place (faults.Damaged damage)
RefusesPlace m store batch pages owner place (faults.Pool fault) = Unit {0}

-- what a pointer page with these bytes says of the page that so many entries lead to: it lists the page,
-- or its entries are passed
abbrev pub Says : List ℕ → ℕ → Look → Type 0
Says b rest (Here page) = (rest < length (entries_of b)) × (slice_index (entries_of b) rest ≡ page.0)
Says b rest (Past left next) =
    (left + length (entries_of b) ≡ rest) × (next.0 ≡ next_in b)

-- A pointer page behind others has been looked at, for the page that so many entries lead to.
pub record LooksUp (pages : Pages) (owner : ℕ) (pointers : List ℕ) (n rest : ℕ) (look : Look)
    : Type 0 where
  pub tested : IsPointerAt pages owner (length pointers) n
  pub says : Says (pages n) rest look

-- a pointer page that is passed is listed behind those before it, and the next one is new; it has a few
-- thousand entries
abbrev pub Passes : List ℕ → List ℕ → ℕ → ℕ → Look → Type 0
Passes old new n rest (Here page) = (new ≡ old) × (rest < 4090)
Passes old new n rest (Past left next) = ListsPage old new n next.0 × (rest ≤ left + 4090)
