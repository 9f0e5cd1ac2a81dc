-- A change of a transaction is taken back.
use Rattle.std.specs.Prelude.{◌≡◌, ◌==◌, ℕ, List, Option, None, Some, if◌then◌else◌}
use Rattle.mg_base.specs.Disk.{Meaning}
use Rattle.mg_model.specs.declared.refusal.Refusal.{Refusal}
use Rattle.mg_model.specs.declared.table.Table.{Table}
use Rattle.mg_batches.specs.Batches.{not_lawful}
use Rattle.mg_space.specs.declared.fault.SpaceFault.{SpaceFault}
use Rattle.mg_space.specs.declared.fault.SpaceFault.TheVariants as faults
use Rattle.mg_txlist.specs.TxList.{said}
use Rattle.mg_undo.specs.declared.changes.Change.{Change}
use Rattle.mg_undo.specs.declared.changes.Was.{Was}
use Rattle.mg_value.specs.declared.value.Value.{Value}
use Rattle.mg_works.specs.Works.{Working, written_to}
use Rattle.mg_core.specs.declared.parts.Core.{Core}
use Rattle.mg_core.specs.Putting.{CountsOne}
use Rattle.mg_core.specs.Refusing.{CountsFault, IsRefusal, NamesLimit}
use Rattle.mg_taking_back.specs.Keys.{FailsKey, TakesKey}

-- ---- the table

-- the table that begins at a page: the catalog, or one that the transaction has written into
abbrev pub table_back : Table → List Working → ℕ → ℕ → Option Table
table_back catalog works t number =
    if catalog.pointer.0 == number then Some catalog else written_to works t number

-- A change is taken back: its table is one that the transaction has written into, or the catalog; only the pages have
-- changed.
pub record TakesChange {D : Type 0} (m : Meaning D) (old new : Core D) (t : ℕ) (c : Change) : Type 0 where
  pub table : Table
  pub found : table_back old.catalog old.works t c.table ≡ Some table
  pub takes : TakesKey m old.store new.store (said old.list) old.live t table c.key c.was
  pub same : new ≡ record old { store = new.store }

-- A fault on the pages is told and counted.
pub record FailsIn {D : Type 0} (m : Meaning D) (old new : Core D) (t : ℕ) (table : Table) (c : Change)
    (refusal : Refusal) : Type 0 where
  pub found : table_back old.catalog old.works t c.table ≡ Some table
  pub fault : SpaceFault
  pub fails : FailsKey m old.store new.store (said old.list) old.live t table c.key c.was fault
  pub is : IsRefusal fault refusal
  pub names : NamesLimit new.store.geometry.limit refusal
  pub counts : CountsFault fault old.damage new.damage old.shortages new.shortages
  pub same : new ≡ record old { store = new.store; damage = new.damage; shortages = new.shortages }

-- It is not: no such table is kept, which no lawful engine meets; or a fault on the pages is told.
pub data FailsChange {D : Type 0} (m : Meaning D) (old new : Core D) (t : ℕ) (c : Change) (refusal : Refusal)
    : Type 0 where
  change_of_none : table_back old.catalog old.works t c.table ≡ None
      → CountsOne old new (faults.Damaged not_lawful) refusal → FailsChange m old new t c refusal
  change_not_taken : (table : Table) → FailsIn m old new t table c refusal → FailsChange m old new t c refusal

-- the change of a key of a table, with what was before
abbrev pub change_of : ℕ → Value → Was → Change
change_of table key was = record { table = table; key = key; was = was }

-- a fault on the pages, which is not told yet
pub data FailsPages {D : Type 0} (m : Meaning D) (old new : Core D) (t : ℕ) (c : Change) (fault : SpaceFault)
    : Type 0 where
  pages_of_none : table_back old.catalog old.works t c.table ≡ None → fault ≡ faults.Damaged not_lawful → new ≡ old
      → FailsPages m old new t c fault
  pages_not_taken : (table : Table) → table_back old.catalog old.works t c.table ≡ Some table
      → FailsKey m old.store new.store (said old.list) old.live t table c.key c.was fault
      → new ≡ record old { store = new.store } → FailsPages m old new t c fault
