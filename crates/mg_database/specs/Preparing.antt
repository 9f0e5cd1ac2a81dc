-- A disk becomes one whose pages may be read.
use Rattle.std.specs.Prelude.{◌≡◌, ℕ, Bool, true, false, length, None, Some, Result, Ok, Err}
use Rattle.mg_base.specs.Disk.{FailsNoWrite, Meaning, Rose}
use Rattle.mg_base.specs.Image.{Image}
use Rattle.mg_format.specs.Format.{FormatDone, IsClean, IsFresh, IsUnmadeImage, SaysAlike}
use Rattle.mg_pool.specs.Pool.{HasAtMost, IsPool, KeepsContent}
use Rattle.mg_pool.specs.declared.fault.PoolFault.{PoolFault}
use Rattle.mg_pool.specs.declared.fault.PoolFault.TheVariants as faults
use Rattle.mg_pool.specs.declared.pool.Pool.{Pool}
use Rattle.mg_space.specs.Taking.{IsGeometry}
use Rattle.mg_space.specs.View.{Tells}
use Rattle.mg_space.specs.declared.fault.SpaceFault.TheVariants as space
use Rattle.mg_space.specs.declared.links.FireLinks.{FireLinks}
use Rattle.mg_survey.specs.Survey.{ReadsHead, limit_of, IsSameDisk}
use Rattle.mg_database.specs.declared.fault.OpenFault.{OpenFault}
use Rattle.mg_database.specs.declared.fault.OpenFault.TheVariants.{Space}

-- What has become of a disk before its pages are read: nothing was written, and no database may be made on
-- it; or a new database was made on it, as one might be.
pub data BecomesReady {D : Type 0} (m : Meaning D) (old new : D) (size : ℕ) : Type 0 where
  there : KeepsContent m old new
      → ((image : Image) → m.held old ≡ Some image → IsUnmadeImage size image → ⊥)
      → BecomesReady m old new size
  made : ((image : Image) → m.held old ≡ Some image → IsUnmadeImage size image)
      → ((image : Image) → Tells m old image → FormatDone {E = PoolFault} m old new size (Ok tt))
      → BecomesReady m old new size

-- A cache over a disk whose pages may be read: no page is dirty, and no page write has failed.
pub record IsPrepared {D : Type 0} (m : Meaning D) (disk : D) (limit : ℕ) (store : Pool D FireLinks)
    : Type 0 where
  pub pool : IsPool m store
  pub geometry : IsGeometry store.geometry
  pub clean : IsClean store
  pub online : store.offline ≡ None
  pub disk_is : BecomesReady m disk store.disk store.geometry.size
  pub limit_is : (image : Image) → m.held disk ≡ Some image
      → store.geometry.limit ≡ limit_of limit (length image)
  -- no call of the disk has failed
  pub steady : m.faults store.disk ≡ m.faults disk
  pub none_failed : FailsNoWrite m disk store.disk
  pub reads : ReadsHead m disk store.disk store.geometry.size
  pub same : IsSameDisk m disk store.disk

-- A new database was not made, as one might have been: a page write or the settling failed.
pub record FailsToMake {D : Type 0} (m : Meaning D) (old new : D) (limit count : ℕ) : Type 0 where
  pub size : ℕ
  pub sized : m.size new ≡ Some size
  pub unmade : (image : Image) → m.held old ≡ Some image → IsUnmadeImage size image
  pub leaves : (image : Image) → Tells m old image
      → FormatDone m old new size (Err (faults.DiskWrite count))
  pub rose : Rose (m.faults old) (m.faults new)
  pub failed_writes : Rose (m.failed_writes old) (m.failed_writes new)
  pub same : IsSameDisk m old new
  -- the disk has no more pages than the page limit
  pub within : (image : Image) → m.held old ≡ Some image → HasAtMost m new (limit_of limit (length image))

-- why a disk does not become one whose pages may be read, and what becomes of it
pub data FailsToPrepare {D : Type 0} (m : Meaning D) (old new : D) (limit : ℕ) : OpenFault → Type 0 where
  unasked : (count : ℕ) → KeepsContent m old new → IsSameDisk m old new
      → Rose (m.faults old) (m.faults new) × FailsNoWrite m old new
      → FailsToPrepare m old new limit (Space (space.Pool (faults.DiskRead count)))
  no_memory : KeepsContent m old new → IsSameDisk m old new → m.faults new ≡ m.faults old
      → FailsToPrepare m old new limit (Space (space.Pool faults.Memory))
  unmade : (count : ℕ) → FailsToMake m old new limit count
      → FailsToPrepare m old new limit (Space (space.Pool (faults.DiskWrite count)))

abbrev pub PreparesDisk : {D : Type 0} → Meaning D → D → ℕ
    → Result (Pool D FireLinks) (D × OpenFault) → Type 0
PreparesDisk m disk limit (Ok store) = IsPrepared m disk limit store
PreparesDisk m disk limit (Err both) = FailsToPrepare m disk both.0 limit both.1

-- A new database was written, as far as the disk tells its images.
pub record Makes {D : Type 0} (m : Meaning D) (old new : Pool D FireLinks) : Type 0 where
  pub pool : IsPool m new
  pub geometry : new.geometry ≡ old.geometry
  pub clean : IsClean new
  pub online : new.offline ≡ None
  pub steady : m.faults new.disk ≡ m.faults old.disk
  pub none_failed : FailsNoWrite m old.disk new.disk
  pub says : SaysAlike m old.disk new.disk
  pub done : (image : Image) → IsFresh m old image
      → FormatDone {E = PoolFault} m old.disk new.disk old.geometry.size (Ok tt)

-- a new database is made, if one is to be; or a page write failed
abbrev pub MakesIf : {D : Type 0} → Meaning D → Bool → Pool D FireLinks → Pool D FireLinks
    → Result (Unit {0}) PoolFault → Type 0
MakesIf m false old new (Ok x) = new ≡ old
MakesIf m true old new (Ok x) = Makes m old new
MakesIf m false old new (Err fault) = ⊥
MakesIf {D} m true old new (Err fault) = (count : ℕ) × (fault ≡ faults.DiskWrite count)
    × Rose (m.faults old.disk) (m.faults new.disk)
    × (m.size new.disk ≡ Some old.geometry.size)
    × SaysAlike m old.disk new.disk
    × HasAtMost m new.disk old.geometry.limit
    × ((image : Image) → IsFresh m old image
    → FormatDone m old.disk new.disk old.geometry.size (Err (faults.DiskWrite count)))
    × Rose (m.failed_writes old.disk) (m.failed_writes new.disk)
