-- What becomes of an engine whose pages a call only reads.
use Rattle.std.specs.Prelude.{◌≡◌, Err}
use Rattle.mg_base.specs.Disk.{Meaning}
use Rattle.mg_base.specs.Image.{Image}
use Rattle.mg_heap.specs.Reading.{ReadsData}
use Rattle.mg_image.specs.Form.{Pages}
use Rattle.mg_model.specs.declared.refusal.Refusal.{Refusal}
use Rattle.mg_pool.specs.Fault.{StaysOnline, TellsFault}
use Rattle.mg_pool.specs.Pool.{shown}
use Rattle.mg_pool.specs.declared.pool.Pool.{Pool}
use Rattle.mg_space.specs.View.{KeepsStore, Tells, pool_answer}
use Rattle.mg_space.specs.declared.fault.SpaceFault.{SpaceFault}
use Rattle.mg_space.specs.declared.links.FireLinks.{FireLinks}
use Rattle.mg_core.specs.declared.parts.Core.{Core}
use Rattle.mg_core.specs.Refusing.{CountsFault, IsRefusal}

-- Pages were only read, and nothing else has happened.
pub record OnlyReads {D : Type 0} (m : Meaning D) (old new : Core D) : Type 0 where
  pub keeps : KeepsStore m old.store new.store
  pub online : StaysOnline m old.store new.store
  pub same : new ≡ record old { store = new.store }

-- A reading was refused: the fault is told and counted. `why` says its cause over an image that the disk tells, by
-- the cache as it is then, the pages and the fault.
pub record FailsReading {D : Type 0} (m : Meaning D) (old new : Core D)
    (why : Pool D FireLinks → Pages → SpaceFault → Type 0) (refusal : Refusal) : Type 0 where
  pub fault : SpaceFault
  pub is : IsRefusal fault refusal
  pub own : ReadsData {T = Unit {0}} (Err fault)
  pub told : TellsFault m old.store new.store (pool_answer {T = Unit {0}} (Err fault))
  pub keeps : KeepsStore m old.store new.store
  pub caused : (image : Image) → Tells m old.store.disk image → why new.store (shown old.store.dirty image) fault
  pub counts : CountsFault fault old.damage new.damage old.shortages new.shortages
  pub same : new ≡ record old { store = new.store; damage = new.damage; shortages = new.shortages }
