-- A table is made.
use Rattle.std.specs.Prelude.{◌≡◌, ℕ, Bool, List, ◌++◌, length}
use Rattle.mg_base.specs.Disk.{Meaning}
use Rattle.mg_base.specs.declared.numbers.TxNo.{TxNo}
use Rattle.mg_core.specs.Cores.{Continues}
use Rattle.mg_core.specs.Events.{EndsWait, IsRefused}
use Rattle.mg_core.specs.Obstacles.{IsTold}
use Rattle.mg_core.specs.Putting.{CountsOne}
use Rattle.mg_core.specs.Refusing.{CountsFault, IsRefusal, NamesLimit}
use Rattle.mg_core.specs.Writing.{HasBegun, MayOnlyRead}
use Rattle.mg_core.specs.declared.parts.Core.{Core}
use Rattle.mg_model.specs.declared.refusal.Refusal.{Refusal}
use Rattle.mg_model.specs.declared.refusal.Refusal.TheVariants.{Memory}
use Rattle.mg_batches.specs.Batches.{not_lawful}
use Rattle.mg_space.specs.declared.fault.SpaceFault.{SpaceFault}
use Rattle.mg_space.specs.declared.fault.SpaceFault.TheVariants as faults
use Rattle.mg_table_batch.specs.Making.{FailsTable, MakesTable}
use Rattle.mg_value.specs.declared.shape.Shape.{Shape}
use Rattle.mg_value.specs.declared.value.Value.{Value}
use Rattle.mg_works.specs.Works.{unasked, with_work}
use Rattle.mg_table_making.specs.Keeping.{kept_each, retracted, works_made}
use Rattle.mg_table_making.specs.Keys.{AreFree, FailsFree, keys_made}

-- ---- the table is put

-- All of a table is put on the pages, and its changes are kept.
pub record PutsTable {D : Type 0} (m : Meaning D) (old new : Core D) (t : TxNo) (name : List ℕ) (shape : Shape)
    (keys : List Value) : Type 0 where
  pub makes : MakesTable m old.catalog t.0 name shape old.store new.store
  pub same : new ≡ record old {
    store = new.store;
    works = works_made t.0 old.catalog.pointer.0 keys old.works;
  }

-- It is not kept for want of memory: what was kept of it is taken back.
pub record FailsKeeping {D : Type 0} (old new : Core D) (t : TxNo) (keys : List Value) (refusal : Refusal)
    : Type 0 where
  pub is : refusal ≡ Memory
  pub done : List Value
  pub rest : List Value
  pub among : done ++ rest ≡ keys
  pub same : new ≡ record old {
    works = retracted t.0 (length done) (kept_each t.0 old.catalog.pointer.0 done old.works);
  }

-- It is not put on the pages: what was kept is taken back, and the fault is told and counted.
pub record FailsMaking {D : Type 0} (m : Meaning D) (old new : Core D) (t : TxNo) (name : List ℕ) (shape : Shape)
    (keys : List Value) (refusal : Refusal) : Type 0 where
  pub fault : SpaceFault
  pub fails : FailsTable m old.catalog t.0 name shape old.store new.store fault
  pub is : IsRefusal fault refusal
  pub names : NamesLimit new.store.geometry.limit refusal
  pub counts : CountsFault fault old.damage new.damage old.shortages new.shortages
  pub same : new ≡ record old {
    store = new.store;
    works = retracted t.0 (length keys)
        (with_work t.0 unasked (kept_each t.0 old.catalog.pointer.0 keys old.works));
    damage = new.damage;
    shortages = new.shortages;
  }

-- why it is not put: the catalog begins at page 0, which is so in no database; it is not kept; or the pages refuse
pub data FailsPut {D : Type 0} (m : Meaning D) (old new : Core D) (t : TxNo) (name : List ℕ) (shape : Shape)
    (keys : List Value) (refusal : Refusal) : Type 0 where
  no_catalog : old.catalog.pointer.0 ≡ 0 → CountsOne old new (faults.Damaged not_lawful) refusal
      → FailsPut m old new t name shape keys refusal
  not_kept : FailsKeeping old new t keys refusal → FailsPut m old new t name shape keys refusal
  not_made : FailsMaking m old new t name shape keys refusal → FailsPut m old new t name shape keys refusal

-- ---- the stages

-- The event has begun, and the keys of the table are free.
pub record MayBeMade {D : Type 0} (m : Meaning D) (old free : Core D) (t : TxNo) (name : List ℕ) (shape : Shape)
    : Type 0 where
  pub begun : Core D
  pub wait : Bool
  pub has_begun : HasBegun old begun t wait
  pub are_free : AreFree m t (keys_made old.catalog.shape name shape) begun free

-- A table is made: nobody speaks for the keys of the rows that say it, and all of it is put.
pub record CreatesTable {D : Type 0} (m : Meaning D) (old new : Core D) (t : TxNo) (name : List ℕ) (shape : Shape)
    : Type 0 where
  pub free : Core D
  pub may : MayBeMade m old free t name shape
  pub puts : PutsTable m free new t name shape (keys_made old.catalog.shape name shape)

-- why the keys of a table are not had: memory is wanting
abbrev pub FailsKeys : {D : Type 0} → Core D → Core D → Refusal → Type 0
FailsKeys old new refusal = IsTold old new Memory refusal

-- Why a table is not made: each stage's own refusals, after the stages before it.
pub data FailsCreation {D : Type 0} (m : Meaning D) (old new : Core D) (t : TxNo) (name : List ℕ) (shape : Shape)
    (refusal : Refusal) : Type 0 where
  not_begun : IsRefused old new t.0 refusal → FailsCreation m old new t name shape refusal
  only_reads : Continues old t.0 → EndsWait old new t.0 → MayOnlyRead new.works t.0 refusal
      → FailsCreation m old new t name shape refusal
  no_keys : (begun : Core D) (wait : Bool) → HasBegun old begun t wait → FailsKeys begun new refusal
      → FailsCreation m old new t name shape refusal
  not_free : (begun : Core D) (wait : Bool) → HasBegun old begun t wait
      → FailsFree m begun new t wait (length (keys_made old.catalog.shape name shape)) refusal
      (keys_made old.catalog.shape name shape)
      → FailsCreation m old new t name shape refusal
  not_put : (free : Core D) → MayBeMade m old free t name shape
      → FailsPut m free new t name shape (keys_made old.catalog.shape name shape) refusal
      → FailsCreation m old new t name shape refusal
