-- The pages are written at the end.
use Rattle.std.specs.Prelude.{◌≡◌, ℕ, true, List, [], ◌∷◌, None, Some, Result, Ok, Err}
use Rattle.mg_base.specs.Disk.{FailsNoWrite, MayLeave, Meaning, Rose}
use Rattle.mg_base.specs.Image.{Image, page_at}
use Rattle.mg_format.specs.Format.{IsClean}
use Rattle.mg_pool.specs.Pool.{IsPool, KeepsContent, shown}
use Rattle.mg_pool.specs.Refusal.{FailsWrites}
use Rattle.mg_pool.specs.Run.{HasWritten}
use Rattle.mg_pool.specs.declared.fault.PoolFault.{PoolFault}
use Rattle.mg_pool.specs.declared.fault.PoolFault.TheVariants.{DiskWrite, Offline}
use Rattle.mg_pool.specs.declared.pool.Pool.{Pool}
use Rattle.mg_space.specs.View.{Tells}
use Rattle.mg_space.specs.declared.links.FireLinks.{FireLinks}

-- Pages were written out one after another: these are the caches between, the newest first.
abbrev pub WritesOn : {D : Type 0} → Meaning D → List (Pool D FireLinks) → Pool D FireLinks
    → Pool D FireLinks → Type 0
WritesOn m [] old now = now ≡ old
WritesOn m (mid ∷ earlier) old now = WritesOn m earlier old mid × HasWritten m mid now

-- So far pages were written out, and nothing else has happened.
pub record HasWrittenOn {D : Type 0} (m : Meaning D) (old now : Pool D FireLinks) : Type 0 where
  pub pool : IsPool m now
  pub online : now.offline ≡ None
  pub between : List (Pool D FireLinks)
  pub run : WritesOn m between old now

-- Pages were written out, and then a page write failed.
pub record FailsWriting {D : Type 0} (m : Meaning D) (old new : Pool D FireLinks) (count : ℕ) : Type 0
  where
    pub mid : Pool D FireLinks
    pub run : HasWrittenOn m old mid
    pub fails : FailsWrites m mid new (DiskWrite count)
    pub rose : Rose (m.faults old.disk) (m.faults new.disk)
    pub failed_writes : Rose (m.failed_writes old.disk) (m.failed_writes new.disk)

-- every page was written, or a page write failed
abbrev pub WritesAll : {D : Type 0} → Meaning D → Pool D FireLinks → Pool D FireLinks
    → Result (Unit {0}) PoolFault → Type 0
WritesAll m old new (Ok x) = HasWrittenOn m old new × IsClean new
WritesAll {D} m old new (Err fault) = (count : ℕ) × (fault ≡ DiskWrite count) × FailsWriting m old new count

-- Every page was written, and then the disk was settled. Where it tells its images, it holds the pages as the
-- cache showed them, and a crash leaves that and nothing else.
pub record Ends {D : Type 0} (m : Meaning D) (old new : Pool D FireLinks) : Type 0 where
  pub online : old.offline ≡ None
  pub written : Pool D FireLinks
  pub run : HasWrittenOn m old written
  pub clean : IsClean written
  pub settles : KeepsContent m written.disk new.disk
  -- no call of the disk has failed
  pub steady : m.faults new.disk ≡ m.faults old.disk
  pub none_failed : FailsNoWrite m old.disk new.disk
  pub holds : (image now : Image) → Tells m old.disk image → m.held new.disk ≡ Some now
      → (page : ℕ) → page_at old.dirty.size now page ≡ shown old.dirty image page
  pub durable : m.tells old.disk ≡ true → (c : Image) → MayLeave m new.disk c
      → m.held new.disk ≡ Some c

-- Why it came to no end, and what becomes of the disk: an earlier page write had failed, and nothing was
-- written; or pages were written out, and then a page write or the settling failed.
pub data FailsToEnd {D : Type 0} (m : Meaning D) (old new : Pool D FireLinks) : PoolFault → Type 0
  where
    offline : (count : ℕ) → old.offline ≡ Some count → new ≡ old
        → FailsToEnd m old new (Offline count)
    unwritten : (count : ℕ) → FailsWriting m old new count → FailsToEnd m old new (DiskWrite count)
    unsettled : (count : ℕ) (written : Pool D FireLinks) → HasWrittenOn m old written → IsClean written
        → KeepsContent m written.disk new.disk
        → Rose (m.faults old.disk) (m.faults new.disk) × Rose (m.failed_writes old.disk) (m.failed_writes new.disk)
        → FailsToEnd m old new (DiskWrite count)

abbrev pub Finishes : {D : Type 0} → Meaning D → Pool D FireLinks → Pool D FireLinks
    → Result (Unit {0}) PoolFault → Type 0
Finishes m old new (Ok x) = Ends m old new
Finishes m old new (Err fault) = FailsToEnd m old new fault
