-- The table of a name that a transaction sees.
use Rattle.std.specs.Prelude.{◌≡◌, ◌-◌, ◌≢◌, ◌⊎◌, ℕ, List, [], Option, None, Some, Result, Ok, Err}
use Rattle.mg_base.specs.Disk.{Meaning}
use Rattle.mg_base.specs.Image.{Image}
use Rattle.mg_base.specs.declared.damage.Damaged.{Damaged}
use Rattle.mg_base.specs.declared.damage.Field.TheVariants.{Link}
use Rattle.mg_base.specs.declared.geometry.TheConstants.{GREATEST_LIMIT}
use Rattle.mg_base.specs.declared.numbers.TxNo.{TxNo}
use Rattle.mg_chain.specs.Refusals.{damage}
use Rattle.mg_heap.specs.Reading.{ReadsData}
use Rattle.mg_model.specs.Catalog.{catalog_name}
use Rattle.mg_model.specs.declared.refusal.Refusal.{Refusal}
use Rattle.mg_model.specs.declared.refusal.Refusal.TheVariants.{Memory, NoTable}
use Rattle.mg_model.specs.declared.table.Table.{Table}
use Rattle.mg_pool.specs.Fault.{StaysOnline, TellsFault}
use Rattle.mg_pool.specs.Pool.{shown}
use Rattle.mg_pool.specs.declared.pool.Pool.{Pool}
use Rattle.mg_seek.specs.TableRows.{IsTableSeen, RefusesTable}
use Rattle.mg_space.specs.View.{KeepsStore, Tells, pool_answer}
use Rattle.mg_space.specs.declared.fault.SpaceFault.{SpaceFault}
use Rattle.mg_space.specs.declared.fault.SpaceFault.TheVariants as space
use Rattle.mg_space.specs.declared.links.FireLinks.{FireLinks}
use Rattle.mg_txlist.specs.TxList.{said}
use Rattle.mg_works.specs.Works.{MayBeGiven, given_to, with_table, with_work}
use Rattle.mg_core.specs.declared.parts.Core.{Core}
use Rattle.mg_core.specs.Cores.{Continues, RefusesCall}
use Rattle.mg_core.specs.Refusing.{CountsFault, IsRefusal}

-- the rows of the catalog that a transaction sees name this table under a name, or none
abbrev pub SeesTable : {D : Type 0} → Meaning D → Core D → TxNo → List ℕ → Option Table → Type 0
SeesTable m core t name found = (image : Image) → Tells m core.store.disk image
    → IsTableSeen (said core.list) core.live t (shown core.store.dirty image) core.catalog name found

-- Pages were read, no fault was met, and nothing else has happened to the pages.
pub record ReadsPages {D : Type 0} (m : Meaning D) (old new : Core D) : Type 0 where
  pub keeps : KeepsStore m old.store new.store
  pub online : StaysOnline m old.store new.store

-- A table that was given to the transaction already is given again: nothing changes.
pub record GivesAgain {D : Type 0} (old new : Core D) (t : TxNo) (name : List ℕ) (table : Table)
    : Type 0 where
  pub continues : Continues old t.0
  pub given : given_to old.works t.0 name ≡ Some table
  pub may : MayBeGiven table
  pub same : new ≡ old

-- The table is found in the catalog, and is one of those that were given from now on.
pub record FindsTable {D : Type 0} (m : Meaning D) (old new : Core D) (t : TxNo) (name : List ℕ)
    (table : Table) : Type 0 where
  pub continues : Continues old t.0
  pub other : name ≢ catalog_name
  pub fresh : given_to old.works t.0 name ≡ None
  pub named : table.name ≡ name
  pub sees : SeesTable m old t name (Some table)
  pub may : MayBeGiven table
  pub reads : ReadsPages m old new
  pub same : new ≡ record old {
    store = new.store;
    works = with_work t.0 (with_table table) old.works;
  }

-- There is no such table: it is the catalog itself, or no row of the catalog names it.
pub record LacksTable {D : Type 0} (m : Meaning D) (old new : Core D) (t : TxNo) (name : List ℕ)
    : Type 0 where
  pub continues : Continues old t.0
  pub fresh : given_to old.works t.0 name ≡ None
  pub none : (name ≡ catalog_name) ⊎ ((name ≢ catalog_name) × SeesTable m old t name None)
  pub reads : ReadsPages m old new
  pub same : new ≡ record old { store = new.store }

-- the damage of a table that begins at a page which is no part of a database
abbrev pub stray_damage : ℕ → Table → Damaged
stray_damage catalog table = damage catalog Link table.pointer.0 (GREATEST_LIMIT - 1)

-- The catalog names a table that may not be given, since its first page is no part of a database.
pub record NamesStray {D : Type 0} (m : Meaning D) (old : Core D) (t : TxNo) (name : List ℕ)
    (fault : SpaceFault) : Type 0 where
  pub table : Table
  pub sees : SeesTable m old t name (Some table)
  pub stray : MayBeGiven table → ⊥
  pub is : fault ≡ space.Damaged (stray_damage old.catalog.pointer.0 table)

-- why the table of a name is not found, where the pages are told
abbrev pub WhyNoTable : {D : Type 0} → Meaning D → Core D → Pool D FireLinks → TxNo → List ℕ
    → SpaceFault → Type 0
WhyNoTable m old store t name fault = ((image : Image) → Tells m old.store.disk image
    → RefusesTable m store [] (said old.list) old.live t
    (shown old.store.dirty image) old.catalog fault)
    ⊎ NamesStray m old t name fault

-- It was not found: pages were read, and the fault is counted.
pub record FailsTable {D : Type 0} (m : Meaning D) (old new : Core D) (t : TxNo) (name : List ℕ)
    (refusal : Refusal) : Type 0 where
  pub continues : Continues old t.0
  pub other : name ≢ catalog_name
  pub fresh : given_to old.works t.0 name ≡ None
  pub fault : SpaceFault
  pub is : IsRefusal fault refusal
  pub own : ReadsData {T = Unit {0}} (Err fault)
  pub keeps : KeepsStore m old.store new.store
  pub told : TellsFault m old.store new.store (pool_answer {T = Unit {0}} (Err fault))
  pub why : WhyNoTable m old new.store t name fault
  pub counts : CountsFault fault old.damage new.damage old.shortages new.shortages
  pub same : new ≡ record old {
    store = new.store;
    damage = new.damage;
    shortages = new.shortages;
  }

-- There was no memory for it: pages may have been read.
pub record WantsMemory {D : Type 0} (m : Meaning D) (old new : Core D) (t : TxNo) : Type 0 where
  pub continues : Continues old t.0
  pub reads : ReadsPages m old new
  pub same : new ≡ record old { store = new.store }

-- why the table of a name is not given
pub data RefusesName {D : Type 0} (m : Meaning D) (old new : Core D) (t : TxNo) (name : List ℕ)
    : Refusal → Type 0 where
  by_call : (refusal : Refusal) → RefusesCall old t.0 refusal → new ≡ old
      → RefusesName m old new t name refusal
  by_lack : LacksTable m old new t name → RefusesName m old new t name NoTable
  by_fault : (refusal : Refusal) → FailsTable m old new t name refusal
      → RefusesName m old new t name refusal
  by_memory : WantsMemory m old new t → RefusesName m old new t name Memory

-- the table of a name is given, again or as the catalog names it, or it is refused
abbrev pub AnswersTable : {D : Type 0} → Meaning D → Core D → Core D → TxNo → List ℕ
    → Result Table Refusal → Type 0
AnswersTable m old new t name (Ok table) = GivesAgain old new t name table
    ⊎ FindsTable m old new t name table
AnswersTable m old new t name (Err refusal) = RefusesName m old new t name refusal

-- ---- the steps of the call

-- a table that was found may be given
abbrev pub MayBeFound : Option Table → Type 0
MayBeFound None = Unit {0}
MayBeFound (Some table) = MayBeGiven table

-- a table that was found has the name
abbrev pub IsFoundUnder : List ℕ → Option Table → Type 0
IsFoundUnder name None = Unit {0}
IsFoundUnder name (Some table) = table.name ≡ name

-- the rows of the catalog are read: they name a table that may be given, or none; or they were not read, or
-- the table may not be given
abbrev pub FindsSeen : {D : Type 0} → Meaning D → Core D → Core D → TxNo → List ℕ
    → Result (Option Table) SpaceFault → Type 0
FindsSeen m old new t name (Ok found) = SeesTable m old t name found × MayBeFound found
    × ReadsPages m old new × (new ≡ record old { store = new.store }) × IsFoundUnder name found
FindsSeen m old new t name (Err fault) = KeepsStore m old.store new.store
    × TellsFault m old.store new.store (pool_answer {T = Unit {0}} (Err fault))
    × WhyNoTable m old new.store t name fault × (new ≡ record old { store = new.store })
    × ReadsData {T = Unit {0}} (Err fault)

-- the table is one of those that were given, or there was no memory
abbrev pub KeepsTable : {D : Type 0} → Core D → Core D → ℕ → Table → Result Table Refusal → Type 0
KeepsTable old new t table (Ok given) = (given ≡ table)
    × (new ≡ record old { works = with_work t (with_table table) old.works })
KeepsTable old new t table (Err refusal) = (refusal ≡ Memory) × (new ≡ old)

-- a table that may be given, or the damage of one that may not
abbrev pub IsLawfulOr : ℕ → Table → Result Table SpaceFault → Type 0
IsLawfulOr catalog table (Ok given) = (given ≡ table) × MayBeGiven table
IsLawfulOr catalog table (Err fault) = (MayBeGiven table → ⊥)
    × (fault ≡ space.Damaged (stray_damage catalog table))
