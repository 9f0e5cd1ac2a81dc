-- One key is taken back on the pages.
use Rattle.std.specs.Prelude.{◌≡◌, ℕ, [], Option, None, Some, Err}
use Rattle.mg_base.specs.Disk.{Meaning}
use Rattle.mg_base.specs.Image.{Image}
use Rattle.mg_base.specs.declared.numbers.RecId.{RecId}
use Rattle.mg_base.specs.declared.transaction.TxState.{TxState}
use Rattle.mg_chain.specs.Refusals.{RefusesChain}
use Rattle.mg_heap.specs.Reading.{ReadsData}
use Rattle.mg_image.specs.Form.{Pages}
use Rattle.mg_model.specs.declared.table.Table.{Table}
use Rattle.mg_pool.specs.Fault.{StaysOnline, TellsFault}
use Rattle.mg_pool.specs.Pool.{shown}
use Rattle.mg_pool.specs.declared.fault.PoolFault.TheVariants as pool_faults
use Rattle.mg_pool.specs.declared.pool.Pool.{Pool}
use Rattle.mg_records.specs.Writing.{FitsShape}
use Rattle.mg_records.specs.declared.write.Write.{Write}
use Rattle.mg_records.specs.declared.write.Write.TheVariants as writes
use Rattle.mg_batches.specs.Batches.{not_lawful}
use Rattle.mg_row_writes.specs.Changing.{FailsTakingOut, TakesNewestOut}
use Rattle.mg_row_writes.specs.Laying.{EntersOwn, FailsEnterOwn, KeysMayBeLaid}
use Rattle.mg_row_writes.specs.Storing.{IsStored, MayBeStored}
use Rattle.mg_seek.specs.Speaking.{IsSpeaker, RefusesTableRows}
use Rattle.mg_seek.specs.Versions.{IsFirst, wants}
use Rattle.mg_seek.specs.declared.walk.Placed.{Placed}
use Rattle.mg_seek.specs.declared.whose.Wanted.TheVariants.{Any, Living}
use Rattle.mg_snap.specs.Live.{State}
use Rattle.mg_space.specs.View.{KeepsStore, Tells, pool_answer}
use Rattle.mg_space.specs.declared.fault.SpaceFault.{SpaceFault}
use Rattle.mg_space.specs.declared.fault.SpaceFault.TheVariants as faults
use Rattle.mg_space.specs.declared.links.FireLinks.{FireLinks}
use Rattle.mg_undo.specs.declared.changes.Was.{Was}
use Rattle.mg_undo.specs.declared.changes.Was.TheVariants as wases
use Rattle.mg_taking_back.specs.Formers.{MayComeBack}
use Rattle.mg_value.specs.declared.value.Value.{Value}
use Rattle.mg_version.specs.declared.cell.Version.{Version}

-- ---- the record

-- the newest version of a record is the transaction's own
abbrev pub IsOwn : ℕ → Option Placed → Type 0
IsOwn t None = ⊥
IsOwn t (Some newest) = newest.version.tx.0 ≡ t

-- A record speaks for a key, and its newest version is the transaction's own.
pub record IsOwnAt (state : ℕ → TxState) (live : State) (t : ℕ) (view : Pages) (table : Table) (key : Value)
    (rec : RecId) : Type 0 where
  pub spoken : IsSpeaker state live view table key (Some rec)
  pub newest : Option Placed
  pub first : IsFirst view (wants state live Any) rec newest
  pub own : IsOwn t newest

-- Why no such record is found, but for faults of the cache. That none speaks for the key, or that its newest version is
-- another one's, no lawful engine meets.
pub data RefusesOwnAt {D : Type 0} (m : Meaning D) (store : Pool D FireLinks) (view : Pages)
    (state : ℕ → TxState) (live : State) (t : ℕ) (table : Table) (key : Value) (fault : SpaceFault) : Type 0 where
  own_unspoken : RefusesTableRows m store [] view (wants state live Living) table fault
      → RefusesOwnAt m store view state live t table key fault
  own_nobody : IsSpeaker state live view table key None → fault ≡ faults.Damaged not_lawful
      → RefusesOwnAt m store view state live t table key fault
  own_unread : (rec : RecId) → IsSpeaker state live view table key (Some rec)
      → RefusesChain m store [] view rec fault → RefusesOwnAt m store view state live t table key fault
  own_other : (rec : RecId) (newest : Option Placed) → IsSpeaker state live view table key (Some rec)
      → IsFirst view (wants state live Any) rec newest → (IsOwn t newest → ⊥) → fault ≡ faults.Damaged not_lawful
      → RefusesOwnAt m store view state live t table key fault

-- ---- what comes back

-- the write by which comes back what the transaction's own change of a key was, none where it had not changed the key
abbrev pub former : Value → Was → Option Write
former key wases.Untouched = None
former key wases.Deleted = Some (writes.Erase key)
former key (wases.Row row) = Some (writes.Insert row)

-- what comes back is a row or a deletion, and no change of a row
abbrev pub IsNoChange : Write → Type 0
IsNoChange (writes.Insert row) = Unit {0}
IsNoChange (writes.Change key row) = ⊥
IsNoChange (writes.Erase key) = Unit {0}

-- The version of a write is put in place of the transaction's own newest one, after the entries of its row.
pub record ReplacesBy {D : Type 0} (m : Meaning D) (before after : Pool D FireLinks) (t : ℕ) (table : Table)
    (rec : RecId) (write : Write) : Type 0 where
  pub version : Version
  pub fits : FitsShape table.shape write
  pub stored : IsStored table t write version
  pub may : MayBeStored before.geometry.size table.pointer.0 version
  pub short : KeysMayBeLaid before.geometry.size table write
  pub enters : EntersOwn m before after table rec write version

-- Why it is not: the row does not fit the table or a page, or a key of it an index, which no lawful engine meets; memory
-- is wanting; or the pages are refused.
pub data FailsReplacingBy {D : Type 0} (m : Meaning D) (before after : Pool D FireLinks) (t : ℕ) (table : Table)
    (rec : RecId) (write : Write) (fault : SpaceFault) : Type 0 where
  former_unfit : (FitsShape table.shape write → ⊥) → fault ≡ faults.Damaged not_lawful → after ≡ before
      → FailsReplacingBy m before after t table rec write fault
  former_memory : fault ≡ faults.Pool pool_faults.Memory → after ≡ before
      → FailsReplacingBy m before after t table rec write fault
  former_long : (v : Version) → IsStored table t write v
      → (MayBeStored before.geometry.size table.pointer.0 v → ⊥) → fault ≡ faults.Damaged not_lawful
      → after ≡ before → FailsReplacingBy m before after t table rec write fault
  former_key_long : (KeysMayBeLaid before.geometry.size table write → ⊥) → fault ≡ faults.Damaged not_lawful
      → after ≡ before → FailsReplacingBy m before after t table rec write fault
  former_not_put : (v : Version) → IsStored table t write v → MayBeStored before.geometry.size table.pointer.0 v
      → KeysMayBeLaid before.geometry.size table write → FailsEnterOwn m before after table rec write v fault
      → FailsReplacingBy m before after t table rec write fault

-- the transaction's own newest version is taken out, or that of a write is put in its place
abbrev pub PutsBack : {D : Type 0} → Meaning D → Pool D FireLinks → Pool D FireLinks → ℕ → Table → RecId
    → Option Write → Type 0
PutsBack m before after t table rec None = TakesNewestOut m before after rec
PutsBack m before after t table rec (Some write) = ReplacesBy m before after t table rec write

abbrev pub FailsPuttingBack : {D : Type 0} → Meaning D → Pool D FireLinks → Pool D FireLinks → ℕ → Table → RecId
    → Option Write → SpaceFault → Type 0
FailsPuttingBack m before after t table rec None fault = FailsTakingOut m before after rec fault
FailsPuttingBack m before after t table rec (Some write) fault =
    FailsReplacingBy m before after t table rec write fault

-- ---- the key

-- A key of a table is taken back: what was may come back, the record is read that speaks for it, and there comes back what was.
pub record TakesKey {D : Type 0} (m : Meaning D) (before after : Pool D FireLinks) (state : ℕ → TxState)
    (live : State) (t : ℕ) (table : Table) (key : Value) (was : Was) : Type 0 where
  pub comes : MayComeBack table.shape key was
  pub rec : RecId
  pub ready : Pool D FireLinks
  pub keeps : KeepsStore m before ready
  pub online : StaysOnline m before ready
  pub own : (image : Image) → Tells m before.disk image
      → IsOwnAt state live t (shown before.dirty image) table key rec
  pub puts : PutsBack m ready after t table rec (former key was)

-- It is not: what was may not come back, which no lawful engine meets; the record is not found, and pages were only read;
-- or what was does not come back.
pub data FailsKey {D : Type 0} (m : Meaning D) (before after : Pool D FireLinks) (state : ℕ → TxState)
    (live : State) (t : ℕ) (table : Table) (key : Value) (was : Was) (fault : SpaceFault) : Type 0 where
  key_unfit : (MayComeBack table.shape key was → ⊥) → fault ≡ faults.Damaged not_lawful → after ≡ before
      → FailsKey m before after state live t table key was fault
  key_unread : KeepsStore m before after → ReadsData {T = Unit {0}} (Err fault)
      → TellsFault m before after (pool_answer {T = Unit {0}} (Err fault))
      → ((image : Image) → Tells m before.disk image
      → RefusesOwnAt m after (shown before.dirty image) state live t table key fault)
      → FailsKey m before after state live t table key was fault
  key_not_put : (rec : RecId) (ready : Pool D FireLinks) → KeepsStore m before ready → StaysOnline m before ready
      → ((image : Image) → Tells m before.disk image
      → IsOwnAt state live t (shown before.dirty image) table key rec)
      → FailsPuttingBack m ready after t table rec (former key was) fault
      → FailsKey m before after state live t table key was fault
