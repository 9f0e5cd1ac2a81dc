-- A collection tells each fault of the disk, and as what it is: where its refusal tells none, the disk's count of faults
-- stands, and where it tells no failed page write, none failed.
use Rattle.std.proofs.Common.{◌≡◌, ◌∙◌, inl, inr, refl, ap, ℕ, Bool, false, Result, Ok, Err}
use Rattle.mg_base.specs.Disk.{Meaning}
use Rattle.mg_base.specs.declared.numbers.RecId.{RecId}
use Rattle.mg_base.specs.declared.numbers.TxNo.{TxNo}
use Rattle.mg_base.specs.declared.transaction.TxState.{TxState}
use Rattle.mg_collecting.specs.Steps.{CollectStep, FailsStep, Steps, drops_unneeded, not_dropped, not_read, not_taken_out, one_more, reads_on, starts, takes_dead, takes_erased}
use Rattle.mg_core.specs.declared.parts.Core.{Core}
use Rattle.mg_core_collecting.specs.Places.{CollectsPlace, CollectsSettled, FailsSettled, collects, no_record, not_collected, not_looked, not_told, nothing_settled}
use Rattle.mg_engine_change_laws.specs.faults.FaultPageLaws.{is_none, met, own_stands, own_told, told}
use Rattle.mg_engine_change_laws.specs.faults.Told.{Stands, TellsFaults, disk_count, is_disks}
use Rattle.mg_faults.specs.Faults.{FaultCount}
use Rattle.mg_model.specs.declared.refusal.Refusal.{Refusal}
use Rattle.mg_model.specs.declared.table.Table.{Table}
use Rattle.mg_pool.specs.declared.pool.Pool.{Pool}
use Rattle.mg_records.specs.Keeping.{refusal_in}
use Rattle.mg_snap.specs.Live.{State as Bases}
use Rattle.mg_space.specs.declared.fault.SpaceFault.{SpaceFault}
use Rattle.mg_space.specs.declared.links.FireLinks.{FireLinks}
use Rattle.mg_txlist.specs.TxList.{said}

-- a record is collected at a place, or is not: each fault of the disk is told
abbrev pub CollectionsTell : (D : Type 0) → Meaning D → Type 0
CollectionsTell D m = (old new : Core D) (t : TxNo) (table : Table) (rec : RecId) (result : Result Bool Refusal)
    → CollectsPlace m old new t table rec result → TellsFaults m old new (refusal_in result)

module _ {D : Type 0} (m : Meaning D) (k : FaultCount) (state : ℕ → TxState) (live : Bases) (rec : RecId) where
  step_stands : (before after : Pool D FireLinks) → CollectStep m state live rec before after → Stands m k before after
  step_stands before after (takes_dead own) = own_stands m k before after own
  step_stands before after (drops_unneeded newer gone own) = own_stands m k before after own
  step_stands before after (takes_erased own) = own_stands m k before after own

  pub steps_stand : (start : Pool D FireLinks) (some : Bool) (now : Pool D FireLinks)
      → Steps m state live rec start some now → Stands m k start now
  steps_stand start b p starts = refl
  steps_stand start b p (reads_on some now after steps keeps online) =
      met m k now after online ∙ steps_stand start some now steps
  steps_stand start b p (one_more some now after steps step) =
      step_stands now after step ∙ steps_stand start some now steps

  pub stop_told : (before after : Pool D FireLinks) (fault : SpaceFault) → FailsStep m rec before after fault
      → is_disks k fault ≡ false → Stands m k before after
  stop_told before after fault (not_read fails) quiet = told m k (Unit {0}) before after fault fails.told quiet
  stop_told before after fault (not_dropped holder newer follows own) quiet = own_told m k before after fault own quiet
  stop_told before after fault (not_taken_out link leads own) quiet = own_told m k before after fault own quiet

  settled_stand : (before after : Pool D FireLinks) (table : Table) (gone : Bool)
      → CollectsSettled m before after state live table rec gone → Stands m k before after
  settled_stand before after table gone (no_record none keeps online why) = met m k before after online
  settled_stand before after table gone (nothing_settled none keeps online why) = met m k before after online
  settled_stand before after table gone (collects ready keeps online is_record settled it) =
      steps_stand ready gone after it.collected.steps ∙ met m k before ready online

  failed_told : (before after : Pool D FireLinks) (table : Table) (fault : SpaceFault)
      → FailsSettled m before after state live table rec fault → is_disks k fault ≡ false → Stands m k before after
  failed_told before after table fault (not_told fails) quiet = told m k (Unit {0}) before after fault fails.told quiet
  failed_told before after table fault (not_looked ready keeps online is_record fails) quiet =
      told m k (Unit {0}) ready after fault fails.told quiet ∙ met m k before ready online
  failed_told before after table fault (not_collected ready keeps online is_record settled fails) quiet =
      stop_told fails.now after fault fails.fails quiet
      ∙ (steps_stand ready fails.some fails.now fails.steps ∙ met m k before ready online)

pub collections_tell : (D : Type 0) (m : Meaning D) → CollectionsTell D m
collections_tell D m old new t table rec (Ok gone) is k quiet =
    settled_stand m k (said old.list) old.live rec old.store new.store table gone is.collected
collections_tell D m old new t table rec (Err refusal) (inl (refuses, same)) k quiet =
    ap (λ (c : Core D). disk_count m k c.store.disk) same
collections_tell D m old new t table rec (Err refusal) (inr is) k quiet =
    failed_told m k (said old.list) old.live rec old.store new.store table is.fault is.fails
    (is_none k is.fault refusal is.is quiet)
