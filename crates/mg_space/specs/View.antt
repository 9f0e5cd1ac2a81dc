-- The pages as one sees them who fills a batch, and what a call leaves that only reads.
use Rattle.std.specs.Prelude.{◌≡◌, ◌<◌, ◌≤◌, ◌+◌, ℕ, true, false, List, length, Some, None, Result, Ok, Err, unwrap_or}
use Rattle.mg_base.specs.Disk.{Meaning}
use Rattle.mg_base.specs.Image.{Image, blank}
use Rattle.mg_base.specs.declared.damage.Damaged.{Damaged}
use Rattle.mg_base.specs.declared.damage.Field.TheVariants.{Presence}
use Rattle.mg_base.specs.declared.geometry.Geometry.{Geometry}
use Rattle.mg_base.specs.declared.numbers.PageNo.{PageNo}
use Rattle.mg_careful.specs.CarefulWrite.{Pages}
use Rattle.mg_pool.specs.Batch.{Changed, content_in}
use Rattle.mg_pool.specs.Change.{or_else}
use Rattle.mg_pool.specs.Dirty.{is_dirty}
use Rattle.mg_pool.specs.Pool.{IsPool, KeepsContent, resident, shown}
use Rattle.mg_pool.specs.declared.batch.BatchPage.{BatchPage}
use Rattle.mg_pool.specs.declared.fault.PoolFault.{PoolFault}
use Rattle.mg_pool.specs.declared.fault.PoolFault.TheVariants as pool_faults
use Rattle.mg_pool.specs.declared.pool.Pool.{Pool}
use Rattle.mg_space.specs.declared.fault.SpaceFault.{SpaceFault}
use Rattle.mg_space.specs.declared.fault.SpaceFault.TheVariants as faults
use Rattle.mg_space.specs.declared.reading.Found.{Found}
use Rattle.mg_space.specs.declared.reading.Found.TheVariants as founds

-- a disk tells what a crash may leave, and holds this image
pub record Tells {D : Type 0} (m : Meaning D) (disk : D) (image : Image) : Type 0 where
  pub told : m.tells disk ≡ true
  pub held : m.held disk ≡ Some image

-- each page to one who fills a batch: the content that the batch puts there, else what the cache
-- shows over the image of its disk
abbrev pub viewed : {D L : Type 0} → Pool D L → Image → Changed → Pages
viewed store image batch n = unwrap_or (content_in batch.pages n) (shown store.dirty image n)

-- each content of a batch is one page long, and is that of a page below the page limit
abbrev pub AreWhole : Geometry → List BatchPage → Type 0
AreWhole g pages = (page : ℕ) (bytes : List ℕ) → content_in pages page ≡ Some bytes
    → (length bytes ≡ g.size) × (page < g.limit)

-- A call has only read: the cache has the dirty pages, their orders and their marks as before, the
-- disk holds what it held, a crash leaves nothing new, and no page write was asked for.
pub record KeepsStore {D L : Type 0} (m : Meaning D) (old new : Pool D L) : Type 0 where
  pub pool : IsPool m new
  pub geometry : new.geometry ≡ old.geometry
  pub dirty : new.dirty ≡ old.dirty
  pub graph : new.graph ≡ old.graph
  pub offline : new.offline ≡ old.offline
  pub disk : KeepsContent m old.disk new.disk

-- what the cache has answered, where a fault of its own is handed on
abbrev pub pool_answer : {T : Type 0} → Result T SpaceFault → Result (Unit {0}) PoolFault
pool_answer (Ok x) = Ok tt
pool_answer (Err (faults.Full limit)) = Ok tt
pool_answer (Err (faults.Pool fault)) = Err fault
pool_answer (Err (faults.Damaged damage)) = Ok tt

-- a page is neither in a batch nor dirty, and lies past the end of a disk with so many pages
pub record IsMissing {D L : Type 0} (m : Meaning D) (store : Pool D L) (pages : List BatchPage)
    (page count : ℕ) : Type 0 where
  pub unput : content_in pages page ≡ None
  pub clean : is_dirty store.dirty page ≡ false
  pub count_is : m.count store.disk ≡ Some count
  pub past : count ≤ page

-- a page was found, and is one page long, or it is missing
abbrev pub FindsPage : {D L : Type 0} → Meaning D → Pool D L → List BatchPage → ℕ → Found → Type 0
FindsPage m store pages page (founds.Page bytes) = length bytes ≡ store.geometry.size
FindsPage m store pages page (founds.Absent count) = IsMissing m store pages page count

-- the bytes that were found are those of the batch, else those that the cache has
abbrev pub IsRead : {D L : Type 0} → Pool D L → List BatchPage → ℕ → Found → Type 0
IsRead store pages page (founds.Page bytes) =
    or_else (content_in pages page) (resident store page) ≡ Some bytes
IsRead store pages page (founds.Absent count) = Unit {0}

-- the bytes that were found; a page that is absent reads as zero
abbrev pub bytes_found : ℕ → Found → List ℕ
bytes_found size (founds.Page bytes) = bytes
bytes_found size (founds.Absent count) = blank size

-- a reading call fails by the cache alone: by its disk, by an earlier fault, or for want of memory
abbrev pub OnlyReads : {T : Type 0} → Result T SpaceFault → Type 0
OnlyReads (Ok x) = Unit {0}
OnlyReads (Err (faults.Full limit)) = ⊥
OnlyReads (Err (faults.Damaged damage)) = ⊥
OnlyReads (Err (faults.Pool (pool_faults.DiskRead n))) = Unit {0}
OnlyReads (Err (faults.Pool (pool_faults.DiskWrite n))) = ⊥
OnlyReads (Err (faults.Pool (pool_faults.Offline n))) = Unit {0}
OnlyReads (Err (faults.Pool (pool_faults.Absent n))) = ⊥
OnlyReads (Err (faults.Pool pool_faults.Memory)) = Unit {0}

-- of the cache's faults a call of several readings hands on those of a reading call alone
abbrev pub ReadsAlone : {T : Type 0} → Result T SpaceFault → Type 0
ReadsAlone (Ok x) = Unit {0}
ReadsAlone (Err (faults.Full limit)) = Unit {0}
ReadsAlone (Err (faults.Damaged damage)) = Unit {0}
ReadsAlone (Err (faults.Pool fault)) = OnlyReads {T = Unit {0}} (Err (faults.Pool fault))

-- the damage of a page that is not there: how many pages there are, and how many would do
abbrev pub absence : PageNo → ℕ → Damaged
absence page count = record { page = page; field = Presence; found = count; wanted = page.0 + 1 }

-- a call that reads one page fails by the cache, or the page is missing
abbrev pub RefusesRead : {D L T : Type 0} → Meaning D → Pool D L → List BatchPage → PageNo
    → Result T SpaceFault → Type 0
RefusesRead m store pages page (Ok x) = Unit {0}
RefusesRead m store pages page (Err (faults.Full limit)) = ⊥
RefusesRead m store pages page (Err (faults.Damaged damage)) =
    (count : ℕ) × (damage ≡ absence page count) × IsMissing m store pages page.0 count
RefusesRead m store pages page (Err (faults.Pool fault)) =
    OnlyReads {T = Unit {0}} (Err (faults.Pool fault))
