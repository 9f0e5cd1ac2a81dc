-- The end of a commit.
use Rattle.std.specs.Prelude.{◌≡◌, ◌⊎◌, ℕ, None, Err}
use Rattle.mg_base.specs.Disk.{Meaning}
use Rattle.mg_base.specs.declared.transaction.TxState.TheVariants.{Committed}
use Rattle.mg_model.specs.declared.refusal.Refusal.{Refusal}
use Rattle.mg_pool.specs.Fault.{OnlyWrites, StaysOnline, TellsFault}
use Rattle.mg_pool.specs.declared.fault.PoolFault.{PoolFault}
use Rattle.mg_snap.specs.Live.{after_leave}
use Rattle.mg_txlist.specs.Ending.{CommitsBits, FailsCommit}
use Rattle.mg_txlist.specs.TxList.{EndsIn}
use Rattle.mg_waits.specs.Waits.{NowWaits, edges_in}
use Rattle.mg_works.specs.Works.{without_work}
use Rattle.mg_core.specs.declared.parts.Core.{Core}
use Rattle.mg_core.specs.Cores.{Continues}
use Rattle.mg_core.specs.Events.{IsRefused}
use Rattle.mg_core.specs.Refusing.{IsRefusalOf}

-- A transaction is committed: its bits are on the disk, and its work and its base are gone.
pub record Commits {D : Type 0} (m : Meaning D) (old new : Core D) (t : ℕ) : Type 0 where
  pub continues : Continues old t
  pub over : NowWaits (edges_in old.waits) (edges_in new.waits) t None
  pub ends : EndsIn old.list new.list t Committed
  pub bits : CommitsBits m old.list new.list old.store new.store t
  -- no page write has failed, nor any call of the disk in this one
  pub online : StaysOnline m old.store new.store
  pub same : new ≡ record old {
    waits = new.waits;
    store = new.store;
    list = new.list;
    works = without_work t old.works;
    live = after_leave old.live t;
  }

-- Its bits were not changed, not written, or not settled: a page write failed, or the settling did.
pub record FailsToCommit {D : Type 0} (m : Meaning D) (old new : Core D) (t : ℕ) (refusal : Refusal)
    : Type 0 where
  pub continues : Continues old t
  pub over : NowWaits (edges_in old.waits) (edges_in new.waits) t None
  pub fault : PoolFault
  pub is : IsRefusalOf fault refusal
  pub only : OnlyWrites {T = Unit {0}} (Err fault)
  pub told : TellsFault {T = Unit {0}} m old.store new.store (Err fault)
  pub fails : FailsCommit m old.list old.store new.store t fault
  pub same : new ≡ record old { waits = new.waits; store = new.store }

-- a commit is refused before anything is changed, or its page writes failed
abbrev pub RefusesCommit : {D : Type 0} → Meaning D → Core D → Core D → ℕ → Refusal → Type 0
RefusesCommit m old new t refusal = IsRefused old new t refusal ⊎ FailsToCommit m old new t refusal
