-- What a call of a transaction leaves that only read pages, and noted whom it waits for.
use Rattle.std.specs.Prelude.{◌≡◌, ◌≤◌, ◌^◌, ◌-◌, ℕ, Option, None}
use Rattle.mg_base.specs.Disk.{Meaning}
use Rattle.mg_space.specs.View.{KeepsStore}
use Rattle.mg_waits.specs.Waits.{NowWaits, edges_in}
use Rattle.mg_core.specs.declared.parts.Core.{Core}

-- its counts are numbers of 64 bits
pub record AreCounts {D : Type 0} (core : Core D) : Type 0 where
  pub damage : core.damage ≤ 2 ^ 64 - 1
  pub shortages : core.shortages ≤ 2 ^ 64 - 1

-- Pages were only read, the transaction waits for that one now, or for nobody, and counts have not fallen; nothing
-- else has happened.
pub record OnlyNotes {D : Type 0} (m : Meaning D) (old new : Core D) (t : ℕ) (on : Option ℕ) : Type 0 where
  pub keeps : KeepsStore m old.store new.store
  pub waits : NowWaits (edges_in old.waits) (edges_in new.waits) t on
  pub damage : old.damage ≤ new.damage
  pub shortages : old.shortages ≤ new.shortages
  pub same : new ≡ record old {
    store = new.store;
    waits = new.waits;
    damage = new.damage;
    shortages = new.shortages;
  }

-- Since a call of a transaction began its wait is over, and pages were only read; nothing else has happened.
pub record HasRead {D : Type 0} (m : Meaning D) (old now : Core D) (t : ℕ) : Type 0 where
  pub keeps : KeepsStore m old.store now.store
  pub over : NowWaits (edges_in old.waits) (edges_in now.waits) t None
  pub same : now ≡ record old { store = now.store; waits = now.waits }
