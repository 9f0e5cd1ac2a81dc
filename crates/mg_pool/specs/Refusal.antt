-- What a call leaves that answers with a fault.
use Rattle.std.specs.Prelude.{◌≡◌, ℕ, ◌+◌, ◌≤◌, true, false, Some, Result, Ok, Err}
use Rattle.mg_base.specs.Disk.{Meaning, Rose}
use Rattle.mg_careful.specs.Graph.{is_ordered}
use Rattle.mg_pool.specs.declared.pool.Pool.{Pool}
use Rattle.mg_pool.specs.declared.fault.PoolFault.{PoolFault}
use Rattle.mg_pool.specs.declared.fault.PoolFault.TheVariants.{DiskRead, DiskWrite, Offline, Absent, Memory}
use Rattle.mg_pool.specs.Dirty.{is_dirty}
use Rattle.mg_pool.specs.Fault.{Counts}
use Rattle.mg_pool.specs.Pool.{IsPool, KeepsPages, LeavesOverlays}
use Rattle.mg_pool.specs.Run.{HasWritten, TimeGoesOn}

-- A page write failed, of a dirty page that no page preceded. Nothing has changed but the disk, and
-- what the pool keeps of its faults.
pub record FailsWrite {D L : Type 0} (m : Meaning D) (old new : Pool D L) (fault : PoolFault)
    : Type 0 where
  pub page : ℕ
  pub dirty : is_dirty old.dirty page ≡ true
  pub ready : (q : ℕ) → is_ordered old.graph q page ≡ false
  pub asked : m.asked new.disk ≤ m.asked old.disk + 1
  pub same : new ≡ record old { disk = new.disk; faults = new.faults; offline = new.offline }
  pub pool : IsPool m new
  pub told : (n : ℕ) × (fault ≡ DiskWrite n) × (new.offline ≡ Some n) × Counts m old new n
  pub failed_writes : Rose (m.failed_writes old.disk) (m.failed_writes new.disk)
  pub kept : KeepsPages m old new
  pub time : TimeGoesOn m old.disk new.disk
  pub crash : LeavesOverlays m old new

-- pages were written out, each after those that precede it, and then one page write failed
pub record FailsWrites {D L : Type 0} (m : Meaning D) (old new : Pool D L) (fault : PoolFault)
    : Type 0 where
  pub before : Pool D L
  pub written : HasWritten m old before
  pub fails : FailsWrite m before new fault

-- A change that is refused leaves the pool and its disk as they were. Where a page write failed, it
-- leaves what the page writes before it left.
abbrev pub LeavesRefused : {D L T : Type 0} → Meaning D → Pool D L → Pool D L
    → Result T PoolFault → Type 0
LeavesRefused m old new (Ok x) = Unit {0}
LeavesRefused m old new (Err (DiskRead n)) = ⊥
LeavesRefused m old new (Err (DiskWrite n)) = FailsWrites m old new (DiskWrite n)
LeavesRefused m old new (Err (Offline n)) = new ≡ old
LeavesRefused m old new (Err (Absent pages)) = ⊥
LeavesRefused m old new (Err Memory) = new ≡ old
