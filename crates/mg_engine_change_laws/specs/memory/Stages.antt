-- A stage of a call of a transaction, in which the store alone has changed, and counts.
use Rattle.std.specs.Prelude.{◌≡◌, ℕ, false, None, Some}
use Rattle.mg_base.specs.Disk.{Meaning, Rose}
use Rattle.mg_model.specs.declared.opening.Opening.{Opening}
use Rattle.mg_model.specs.History.{Entries}
use Rattle.mg_pool.specs.Dirty.{is_marked}
use Rattle.mg_pool.specs.Refusal.{FailsWrites}
use Rattle.mg_pool.specs.declared.fault.PoolFault.TheVariants as pool_faults
use Rattle.mg_pool.specs.declared.pool.Pool.{Pool}
use Rattle.mg_records.specs.Crashing.{LeavesQuietly}
use Rattle.mg_records.specs.Keeping.{WalksStay}
use Rattle.mg_space.specs.View.{KeepsStore}
use Rattle.mg_space.specs.declared.fault.SpaceFault.{SpaceFault}
use Rattle.mg_space.specs.declared.fault.SpaceFault.TheVariants as faults
use Rattle.mg_space.specs.declared.links.FireLinks.{FireLinks}
use Rattle.mg_core.specs.declared.parts.Core.{Core}
use Rattle.mg_engine_meaning_laws.specs.Frames.{StoreGoesOn}
use Rattle.mg_engine_meaning_laws.specs.Meaning.{Places, means}
use Rattle.mg_engine_meaning_laws.specs.Standings.{StandsFor}

-- An engine stands for what it stood for, a crash leaves that, all others walk on, and no page has come to be marked.
pub record StaysSo {D P : Type 0} (m : Meaning D) (places : Places P) (old new : Core D) (t : ℕ) : Type 0 where
  pub stands : (o : Opening) (h : Entries) → StandsFor m old o h → StandsFor m new o h
  pub quiet : LeavesQuietly (means m places) old new
  pub goes : StoreGoesOn m old.store new.store
  pub walks : WalksStay (means m places) old new (Some t)
  pub unmarked : (page who : ℕ) → is_marked old.store.dirty page who ≡ false
      → is_marked new.store.dirty page who ≡ false

-- Pages were read, and then a page write failed.
pub record FailsReady {D : Type 0} (m : Meaning D) (old new : Pool D FireLinks) (fault : SpaceFault) : Type 0 where
  pub ready : Pool D FireLinks
  pub count : ℕ
  pub keeps : KeepsStore m old ready
  pub fails : FailsWrites m ready new (pool_faults.DiskWrite count)
  pub is : fault ≡ faults.Pool (pool_faults.DiskWrite count)

-- what a fault of a call tells of the store: whether a page write has failed, and that the disk's counts of faults rose
abbrev pub TellsOf : {D : Type 0} → Meaning D → Pool D FireLinks → Pool D FireLinks → SpaceFault → Type 0
TellsOf m before after (faults.Full limit) = after.offline ≡ None
TellsOf m before after (faults.Damaged it) = after.offline ≡ None
TellsOf m before after (faults.Pool (pool_faults.Absent pages)) = after.offline ≡ None
TellsOf m before after (faults.Pool (pool_faults.DiskRead n)) =
    (after.offline ≡ None) × Rose (m.faults before.disk) (m.faults after.disk)
TellsOf m before after (faults.Pool (pool_faults.DiskWrite n)) =
    (after.offline ≡ Some n) × Rose (m.faults before.disk) (m.faults after.disk)
    × Rose (m.failed_writes before.disk) (m.failed_writes after.disk)
TellsOf m before after (faults.Pool (pool_faults.Offline n)) = before.offline ≡ Some n
TellsOf m before after (faults.Pool pool_faults.Memory) = after.offline ≡ None
