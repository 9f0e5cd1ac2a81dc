-- A batch of its own: filled by a call that only reads, and then changed by the cache, or not.
use Rattle.std.specs.Prelude.{◌≡◌, ◌⊎◌, [], Err}
use Rattle.mg_base.specs.Disk.{Meaning}
use Rattle.mg_base.specs.Image.{Image}
use Rattle.mg_base.specs.declared.damage.Damaged.{Damaged}
use Rattle.mg_base.specs.declared.damage.Field.TheVariants.{Bit}
use Rattle.mg_pool.specs.Batch.{Changed, IsLawful, content_in}
use Rattle.mg_pool.specs.Change.{Changes, ChangesOverlays}
use Rattle.mg_pool.specs.Fault.{OnlyWrites, StaysOnline, TellsFault}
use Rattle.mg_pool.specs.Pool.{IsPool, KeepsPages, LeavesOverlays}
use Rattle.mg_pool.specs.Refusal.{LeavesRefused}
use Rattle.mg_pool.specs.declared.fault.PoolFault.{PoolFault}
use Rattle.mg_pool.specs.declared.fault.PoolFault.TheVariants as pool_faults
use Rattle.mg_pool.specs.declared.pool.Pool.{Pool}
use Rattle.mg_space.specs.View.{KeepsStore, ReadsAlone, Tells, pool_answer}
use Rattle.mg_space.specs.declared.fault.SpaceFault.{SpaceFault}
use Rattle.mg_space.specs.declared.fault.SpaceFault.TheVariants as faults
use Rattle.mg_space.specs.declared.links.FireLinks.{FireLinks}

-- a batch that has nothing yet
abbrev pub nothing_yet : Changed
nothing_yet = record { pages = []; orders = [] }

-- what is told of that which no lawful caller asks for: a bit of page 0 that is not set
abbrev pub not_lawful : Damaged
not_lawful = record { page = record { 0 = 0 }; field = Bit; found = 0; wanted = 1 }

-- ---- a batch that was filled

-- A batch was changed: the cache and its disk go on, and each overlay is as the batch says.
pub record ChangesBatch {D : Type 0} (m : Meaning D) (before after : Pool D FireLinks) (batch : Changed)
    : Type 0 where
  pub pool : IsPool m after
  pub geometry : after.geometry ≡ before.geometry
  pub online : StaysOnline m before after
  pub lawful : IsLawful before.geometry.size batch.pages batch.orders
  pub changes : Changes m before after batch.pages batch.orders
  pub frame : ChangesOverlays m (content_in batch.pages) batch.orders before after
  pub crash : LeavesOverlays m before after

-- The cache refused a change: pages may have been written out, as for the change, and no content has changed.
pub record RefusesBatch {D : Type 0} (m : Meaning D) (before after : Pool D FireLinks) (fault : PoolFault)
    : Type 0 where
  pub pool : IsPool m after
  pub geometry : after.geometry ≡ before.geometry
  pub told : TellsFault {T = Unit {0}} m before after (Err fault)
  pub own : OnlyWrites {T = Unit {0}} (Err fault) ⊎ (fault ≡ pool_faults.Memory)
  pub same : KeepsPages m before after
  pub left : LeavesRefused {T = Unit {0}} m before after (Err fault)
  pub crash : LeavesOverlays m before after

-- A batch that is not lawful is not changed.
pub record IsNoBatch {D : Type 0} (before after : Pool D FireLinks) (batch : Changed) (it : Damaged) : Type 0 where
  pub is : it ≡ not_lawful
  pub unlawful : IsLawful before.geometry.size batch.pages batch.orders → ⊥
  pub same : after ≡ before

-- why a batch is not changed
abbrev pub FailsBatch : {D : Type 0} → Meaning D → Pool D FireLinks → Pool D FireLinks → Changed → SpaceFault
    → Type 0
FailsBatch m before after batch (faults.Full limit) = ⊥
FailsBatch m before after batch (faults.Damaged it) = IsNoBatch before after batch it
FailsBatch m before after batch (faults.Pool fault) = RefusesBatch m before after fault

-- ---- a batch of its own

-- A fresh batch was filled by a call that only read, and then changed. `fills` says what the batch has over an
-- image that the disk tells.
pub record ChangesOwn {D : Type 0} (m : Meaning D) (before after : Pool D FireLinks)
    (fills : Image → Changed → Type 0) : Type 0 where
  pub batch : Changed
  pub ready : Pool D FireLinks
  pub keeps : KeepsStore m before ready
  pub online : StaysOnline m before ready
  pub filled : (image : Image) → Tells m before.disk image → fills image batch
  pub changed : ChangesBatch m ready after batch

-- The batch was not filled, and pages were only read; or it was filled and not changed. `refuses` says why it is
-- not filled over an image that the disk tells.
pub data FailsOwn {D : Type 0} (m : Meaning D) (before after : Pool D FireLinks)
    (fills : Image → Changed → Type 0) (refuses : Image → SpaceFault → Type 0) (fault : SpaceFault)
    : Type 0 where
  not_filled : KeepsStore m before after → ReadsAlone {T = Unit {0}} (Err fault)
      → TellsFault m before after (pool_answer {T = Unit {0}} (Err fault))
      → ((image : Image) → Tells m before.disk image → refuses image fault)
      → FailsOwn m before after fills refuses fault
  not_changed : (batch : Changed) (ready : Pool D FireLinks) → KeepsStore m before ready
      → StaysOnline m before ready
      → ((image : Image) → Tells m before.disk image → fills image batch)
      → FailsBatch m ready after batch fault
      → FailsOwn m before after fills refuses fault
