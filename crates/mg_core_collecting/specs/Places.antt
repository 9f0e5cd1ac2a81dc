-- A record at a place of a table is collected where it has something settled.
use Rattle.std.specs.Prelude.{◌≡◌, ◌⊎◌, ◌||◌, ℕ, Bool, true, false, [], None, Some, is_some, Result, Ok, Err}
use Rattle.mg_base.specs.Disk.{Meaning}
use Rattle.mg_base.specs.Image.{Image}
use Rattle.mg_base.specs.declared.numbers.RecId.{RecId}
use Rattle.mg_base.specs.declared.numbers.TxNo.{TxNo}
use Rattle.mg_base.specs.declared.transaction.TxState.{TxState}
use Rattle.mg_chain.specs.Chains.{Meets, newest_link}
use Rattle.mg_chain.specs.Refusals.{RefusesCellAt, RefusesVersion}
use Rattle.mg_collecting.specs.Collecting.{Collects, FailsCollecting}
use Rattle.mg_collecting.specs.Steps.{FailsReading}
use Rattle.mg_core.specs.Cores.{Continues, RefusesCall}
use Rattle.mg_core.specs.Refusing.{CountsFault, IsRefusal, NamesLimit}
use Rattle.mg_core.specs.declared.parts.Core.{Core}
use Rattle.mg_heap.specs.Listed.{IsRecordOf, RefusesRecordOf}
use Rattle.mg_image.specs.Form.{Pages}
use Rattle.mg_image.specs.Records.{cells_of}
use Rattle.mg_model.specs.Answers.{is_committed}
use Rattle.mg_model.specs.declared.refusal.Refusal.{Refusal}
use Rattle.mg_model.specs.declared.table.Table.{Table}
use Rattle.mg_pool.specs.Fault.{StaysOnline}
use Rattle.mg_pool.specs.Pool.{shown}
use Rattle.mg_pool.specs.declared.pool.Pool.{Pool}
use Rattle.mg_snap.specs.Live.{State}
use Rattle.mg_space.specs.View.{KeepsStore, Tells}
use Rattle.mg_space.specs.declared.fault.SpaceFault.{SpaceFault}
use Rattle.mg_space.specs.declared.links.FireLinks.{FireLinks}
use Rattle.mg_txlist.specs.TxList.{said}
use Rattle.mg_version.specs.declared.cell.Link.{Link}
use Rattle.mg_version.specs.declared.cell.Version.{Version}

-- ---- a settled record

-- The newest version of a record is met by this link. It is told whether its transaction is committed, or another version
-- stands behind it.
pub record HasNewest (view : Pages) (state : ℕ → TxState) (rec : RecId) (settled : Bool) : Type 0 where
  pub link : Link
  pub version : Version
  pub leads : newest_link view rec ≡ Some link
  pub meets : Meets (cells_of view) link version
  pub told : (is_committed (state link.tx.0) || is_some version.back) ≡ settled

-- a record has something settled: its newest version is of a committed transaction, or another one stands behind it
abbrev pub IsSettled : Pages → (ℕ → TxState) → RecId → Type 0
IsSettled view state rec = HasNewest view state rec true

-- it has nothing settled: no version, or one alone that is of no committed transaction
abbrev pub IsUnsettled : Pages → (ℕ → TxState) → RecId → Type 0
IsUnsettled view state rec = (newest_link view rec ≡ None) ⊎ HasNewest view state rec false

abbrev pub TellsSettled : Pages → (ℕ → TxState) → RecId → Bool → Type 0
TellsSettled view state rec true = IsSettled view state rec
TellsSettled view state rec false = IsUnsettled view state rec

-- why it is not told: the record's slot is not read, or its newest version is not
abbrev pub RefusesLook : {D : Type 0} → Meaning D → Pool D FireLinks → Pages → RecId → SpaceFault → Type 0
RefusesLook m store view rec fault = RefusesCellAt m store [] view rec fault
    ⊎ ((link : Link) × (newest_link view rec ≡ Some link) × RefusesVersion m store [] view rec.page.0 link fault)

-- ---- its collection

-- A record of a table that has something settled is collected; any other slot is left.
pub data CollectsSettled {D : Type 0} (m : Meaning D) (before after : Pool D FireLinks) (state : ℕ → TxState)
    (live : State) (table : Table) (rec : RecId) (gone : Bool) : Type 0 where
  no_record : gone ≡ false → KeepsStore m before after → StaysOnline m before after
      → ((image : Image) → Tells m before.disk image → IsRecordOf (shown before.dirty image) table.pointer.0 rec → ⊥)
      → CollectsSettled m before after state live table rec gone
  nothing_settled : gone ≡ false → KeepsStore m before after → StaysOnline m before after
      → ((image : Image) → Tells m before.disk image → IsUnsettled (shown before.dirty image) state rec)
      → CollectsSettled m before after state live table rec gone
  collects : (ready : Pool D FireLinks) → KeepsStore m before ready → StaysOnline m before ready
      → ((image : Image) → Tells m before.disk image → IsRecordOf (shown before.dirty image) table.pointer.0 rec)
      → ((image : Image) → Tells m before.disk image → IsSettled (shown before.dirty image) state rec)
      → Collects m ready after state live rec gone → CollectsSettled m before after state live table rec gone

-- It is not told whether it is a record of the table; or it is one, and it is not told whether that has something settled;
-- or it has, and is not collected to the end.
pub data FailsSettled {D : Type 0} (m : Meaning D) (before after : Pool D FireLinks) (state : ℕ → TxState)
    (live : State) (table : Table) (rec : RecId) (fault : SpaceFault) : Type 0 where
  not_told : FailsReading m before after
      (λ image f. RefusesRecordOf m after [] (shown before.dirty image) table.pointer.0 rec f) fault
      → FailsSettled m before after state live table rec fault
  not_looked : (ready : Pool D FireLinks) → KeepsStore m before ready → StaysOnline m before ready
      → ((image : Image) → Tells m before.disk image → IsRecordOf (shown before.dirty image) table.pointer.0 rec)
      → FailsReading m ready after (λ image f. RefusesLook m after (shown ready.dirty image) rec f) fault
      → FailsSettled m before after state live table rec fault
  not_collected : (ready : Pool D FireLinks) → KeepsStore m before ready → StaysOnline m before ready
      → ((image : Image) → Tells m before.disk image → IsRecordOf (shown before.dirty image) table.pointer.0 rec)
      → ((image : Image) → Tells m before.disk image → IsSettled (shown before.dirty image) state rec)
      → FailsCollecting m ready after state live rec fault
      → FailsSettled m before after state live table rec fault

-- ---- the call

-- The call went on: the record was collected or left, and nothing else of the core has changed.
pub record CollectsOn {D : Type 0} (m : Meaning D) (old new : Core D) (t : TxNo) (table : Table) (rec : RecId)
    (gone : Bool) : Type 0 where
  pub continues : Continues old t.0
  pub collected : CollectsSettled m old.store new.store (said old.list) old.live table rec gone
  pub same : new ≡ record old { store = new.store }

-- The record was not collected to the end: the fault is told and counted.
pub record FailsPlace {D : Type 0} (m : Meaning D) (old new : Core D) (t : TxNo) (table : Table) (rec : RecId)
    (refusal : Refusal) : Type 0 where
  pub continues : Continues old t.0
  pub fault : SpaceFault
  pub is : IsRefusal fault refusal
  pub names : NamesLimit new.store.geometry.limit refusal
  pub fails : FailsSettled m old.store new.store (said old.list) old.live table rec fault
  pub counts : CountsFault fault old.damage new.damage old.shortages new.shortages
  pub same : new ≡ record old { store = new.store; damage = new.damage; shortages = new.shortages }

-- a record at a place is collected, or the call is refused
abbrev pub CollectsPlace : {D : Type 0} → Meaning D → Core D → Core D → TxNo → Table → RecId → Result Bool Refusal
    → Type 0
CollectsPlace m old new t table rec (Ok gone) = CollectsOn m old new t table rec gone
CollectsPlace m old new t table rec (Err refusal) = (RefusesCall old t.0 refusal × (new ≡ old))
    ⊎ FailsPlace m old new t table rec refusal
