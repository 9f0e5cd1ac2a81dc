-- Each record of the tables that committed rows of the catalog name is collected, one after another.
use Rattle.std.specs.Prelude.{◌≡◌, ◌≤◌, ◌-◌, ◌++◌, ◌⊎◌, ℕ, Bool, false, List, [], ◌∷◌, None, Some, Result, Ok, Err}
use Rattle.mg_base.specs.Disk.{Meaning}
use Rattle.mg_base.specs.Image.{Image}
use Rattle.mg_base.specs.declared.damage.Field.TheVariants.{Link}
use Rattle.mg_base.specs.declared.geometry.TheConstants.{GREATEST_LIMIT}
use Rattle.mg_base.specs.declared.numbers.RecId.{RecId}
use Rattle.mg_base.specs.declared.numbers.TxNo.{TxNo}
use Rattle.mg_base.specs.declared.transaction.TxState.{TxState}
use Rattle.mg_catalog.specs.ByKey.{by_key}
use Rattle.mg_chain.specs.Refusals.{damage}
use Rattle.mg_collecting.specs.Collecting.{Collects, FailsCollecting}
use Rattle.mg_collecting.specs.Steps.{FailsReading}
use Rattle.mg_core.specs.Refusing.{CountsFault, IsRefusal, NamesLimit}
use Rattle.mg_core.specs.declared.parts.Core.{Core}
use Rattle.mg_heap.specs.Walk.{RefusesWalk}
use Rattle.mg_image.specs.Form.{Pages, Row}
use Rattle.mg_model.specs.CatalogRules.{AreTables}
use Rattle.mg_model.specs.declared.refusal.Refusal.{Refusal}
use Rattle.mg_model.specs.declared.refusal.Refusal.TheVariants.{Memory, Offline}
use Rattle.mg_model.specs.declared.table.Table.{Table}
use Rattle.mg_pool.specs.Fault.{StaysOnline}
use Rattle.mg_pool.specs.Pool.{shown}
use Rattle.mg_pool.specs.declared.pool.Pool.{Pool}
use Rattle.mg_seek.specs.TableRecords.{AreTableRecords}
use Rattle.mg_seek.specs.TableRows.{AreRowsSeen, RefusesTable}
use Rattle.mg_snap.specs.Live.{State, after_enter}
use Rattle.mg_space.specs.View.{KeepsStore, Tells}
use Rattle.mg_space.specs.declared.fault.SpaceFault.{SpaceFault}
use Rattle.mg_space.specs.declared.fault.SpaceFault.TheVariants as faults
use Rattle.mg_space.specs.declared.links.FireLinks.{FireLinks}
use Rattle.mg_txlist.specs.TxList.{next_said, said}
use Rattle.mg_core_collecting.specs.Places.{IsSettled, IsUnsettled, RefusesLook}

-- ---- one after another

-- From one store comes another, by one call for each of these.
pub data GoesThrough {A D : Type 0} (one : A → Pool D FireLinks → Pool D FireLinks → Type 0) (start : Pool D FireLinks)
    : List A → Pool D FireLinks → Type 0 where
  none_yet : GoesThrough one start [] start
  one_more : (done : List A) (next : A) (mid now : Pool D FireLinks) → GoesThrough one start done mid
      → one next mid now → GoesThrough one start (done ++ next ∷ []) now

-- Some of these are done, and the rest are to come.
pub record IsAmidst {A D : Type 0} (one : A → Pool D FireLinks → Pool D FireLinks → Type 0) (all rest : List A)
    (start now : Pool D FireLinks) : Type 0 where
  pub done : List A
  pub parts : all ≡ done ++ rest
  pub goes : GoesThrough one start done now

-- The first of these are done, and the next one fails.
pub record StopsAt {A D : Type 0} (one : A → Pool D FireLinks → Pool D FireLinks → Type 0)
    (fails : A → Pool D FireLinks → Pool D FireLinks → SpaceFault → Type 0) (start : Pool D FireLinks) (all : List A)
    (after : Pool D FireLinks) (fault : SpaceFault) : Type 0 where
  pub done : List A
  pub next : A
  pub later : List A
  pub parts : all ≡ done ++ next ∷ later
  pub mid : Pool D FireLinks
  pub goes : GoesThrough one start done mid
  pub stops : fails next mid after fault

-- ---- the committed tables

-- the system's transaction, which is always committed
abbrev pub the_system : TxNo
the_system = record { 0 = 0 }

-- where nobody else is live it sees each number below the next one
abbrev pub system_base : ℕ → State
system_base next = after_enter (record { next = next; entered = [] }) 0

-- These are the tables that the rows of a catalog name which the system's transaction sees.
pub record AreNamed (state : ℕ → TxState) (view : State) (pages : Pages) (catalog : Table) (tables : List Table)
    : Type 0 where
  pub rows : List Row
  pub seen : AreRowsSeen state view the_system pages catalog rows
  pub names : AreTables (by_key rows) tables

-- Pages were read, and these are they.
pub record FindsCommitted {D : Type 0} (m : Meaning D) (before after : Pool D FireLinks) (state : ℕ → TxState)
    (view : State) (catalog : Table) (tables : List Table) : Type 0 where
  pub keeps : KeepsStore m before after
  pub online : StaysOnline m before after
  pub named : (image : Image) → Tells m before.disk image
      → AreNamed state view (shown before.dirty image) catalog tables

-- they are not found
abbrev pub UnnamedTables : {D : Type 0} → Meaning D → Pool D FireLinks → Pool D FireLinks → (ℕ → TxState) → State
    → Table → SpaceFault → Type 0
UnnamedTables m before after state view catalog fault = FailsReading m before after
    (λ image f. RefusesTable m after [] state view the_system (shown before.dirty image) catalog f) fault

-- ---- one record

-- A record that is listed is collected where it has something settled, and left where it has not.
pub data CollectsListed {D : Type 0} (m : Meaning D) (state : ℕ → TxState) (live : State) (rec : RecId) (gone : Bool)
    (before after : Pool D FireLinks) : Type 0 where
  left_alone : gone ≡ false → KeepsStore m before after → StaysOnline m before after
      → ((image : Image) → Tells m before.disk image → IsUnsettled (shown before.dirty image) state rec)
      → CollectsListed m state live rec gone before after
  is_collected : (ready : Pool D FireLinks) → KeepsStore m before ready → StaysOnline m before ready
      → ((image : Image) → Tells m before.disk image → IsSettled (shown before.dirty image) state rec)
      → Collects m ready after state live rec gone → CollectsListed m state live rec gone before after

-- so it is, whether something went or not
abbrev pub CollectsOne : {D : Type 0} → Meaning D → (ℕ → TxState) → State → RecId → Pool D FireLinks
    → Pool D FireLinks → Type 0
CollectsOne m state live rec before after = (gone : Bool) × CollectsListed m state live rec gone before after

-- it is not told whether it has something settled, or it is not collected to the end
pub data FailsListed {D : Type 0} (m : Meaning D) (state : ℕ → TxState) (live : State) (rec : RecId)
    (before after : Pool D FireLinks) (fault : SpaceFault) : Type 0 where
  unlooked : FailsReading m before after (λ image f. RefusesLook m after (shown before.dirty image) rec f) fault
      → FailsListed m state live rec before after fault
  uncollected : (ready : Pool D FireLinks) → KeepsStore m before ready → StaysOnline m before ready
      → ((image : Image) → Tells m before.disk image → IsSettled (shown before.dirty image) state rec)
      → FailsCollecting m ready after state live rec fault → FailsListed m state live rec before after fault

-- ---- one table

-- The records of a table are collected, in their order.
pub record CollectsTable {D : Type 0} (m : Meaning D) (state : ℕ → TxState) (live : State) (table : Table)
    (before after : Pool D FireLinks) : Type 0 where
  pub ready : Pool D FireLinks
  pub keeps : KeepsStore m before ready
  pub online : StaysOnline m before ready
  pub records : List RecId
  pub are : (image : Image) → Tells m before.disk image
      → AreTableRecords (shown before.dirty image) table.pointer.0 records
  pub goes : GoesThrough (CollectsOne m state live) ready records after

-- They are listed, and one is not collected to the end.
pub record StopsInTable {D : Type 0} (m : Meaning D) (state : ℕ → TxState) (live : State) (table : Table)
    (before after : Pool D FireLinks) (fault : SpaceFault) : Type 0 where
  pub ready : Pool D FireLinks
  pub keeps : KeepsStore m before ready
  pub online : StaysOnline m before ready
  pub records : List RecId
  pub are : (image : Image) → Tells m before.disk image
      → AreTableRecords (shown before.dirty image) table.pointer.0 records
  pub stops : StopsAt (CollectsOne m state live) (FailsListed m state live) ready records after fault

-- a table begins at a page that is no part of a database, which is damage of the catalog that begins at another page
abbrev pub IsStray : ℕ → ℕ → SpaceFault → Type 0
IsStray catalog pointer (faults.Full limit) = ⊥
IsStray catalog pointer (faults.Damaged it) = (GREATEST_LIMIT ≤ pointer)
    × (it ≡ damage catalog Link pointer (GREATEST_LIMIT - 1))
IsStray catalog pointer (faults.Pool fault) = ⊥

-- a table begins so; its records are not listed; or one is not collected to the end
pub data FailsTable {D : Type 0} (m : Meaning D) (state : ℕ → TxState) (live : State) (catalog : ℕ) (table : Table)
    (before after : Pool D FireLinks) (fault : SpaceFault) : Type 0 where
  is_stray : IsStray catalog table.pointer.0 fault → KeepsStore m before after → after ≡ before
      → FailsTable m state live catalog table before after fault
  unlisted : FailsReading m before after
      (λ image f. RefusesWalk m after [] (shown before.dirty image) table.pointer.0 f) fault
      → FailsTable m state live catalog table before after fault
  stops_in : StopsInTable m state live table before after fault
      → FailsTable m state live catalog table before after fault

-- ---- all tables

-- The tables are found, and collected one after another.
pub record CollectsCommitted {D : Type 0} (m : Meaning D) (before after : Pool D FireLinks) (state : ℕ → TxState)
    (live view : State) (catalog : Table) : Type 0 where
  pub tables : List Table
  pub ready : Pool D FireLinks
  pub finds : FindsCommitted m before ready state view catalog tables
  pub goes : GoesThrough (CollectsTable m state live) ready tables after

-- They are found, and one is not collected to the end.
pub record StopsInTables {D : Type 0} (m : Meaning D) (before after : Pool D FireLinks) (state : ℕ → TxState)
    (live view : State) (catalog : Table) (fault : SpaceFault) : Type 0 where
  pub tables : List Table
  pub ready : Pool D FireLinks
  pub finds : FindsCommitted m before ready state view catalog tables
  pub stops : StopsAt (CollectsTable m state live) (FailsTable m state live catalog.pointer.0) ready tables
      after fault

abbrev pub FailsCommitted : {D : Type 0} → Meaning D → Pool D FireLinks → Pool D FireLinks → (ℕ → TxState) → State
    → State → Table → SpaceFault → Type 0
FailsCommitted m before after state live view catalog fault = UnnamedTables m before after state view catalog fault
    ⊎ StopsInTables m before after state live view catalog fault

-- ---- the call

-- No page write has failed, and all was collected; nothing else of the core has changed.
pub record CollectsAll {D : Type 0} (m : Meaning D) (old new : Core D) : Type 0 where
  pub up : old.store.offline ≡ None
  pub collected : CollectsCommitted m old.store new.store (said old.list) old.live (system_base (next_said old.list))
      old.catalog
  pub same : new ≡ record old { store = new.store }

-- It was not collected to the end: the fault is told and counted.
pub record FailsAll {D : Type 0} (m : Meaning D) (old new : Core D) (refusal : Refusal) : Type 0 where
  pub up : old.store.offline ≡ None
  pub fault : SpaceFault
  pub is : IsRefusal fault refusal
  pub names : NamesLimit new.store.geometry.limit refusal
  pub fails : FailsCommitted m old.store new.store (said old.list) old.live (system_base (next_said old.list))
      old.catalog fault
  pub counts : CountsFault fault old.damage new.damage old.shortages new.shortages
  pub same : new ≡ record old { store = new.store; damage = new.damage; shortages = new.shortages }

-- a page write has failed before, or memory is wanting at once: nothing has changed
abbrev pub RefusesAll : {D : Type 0} → Core D → Refusal → Type 0
RefusesAll old (Offline count) = old.store.offline ≡ Some count
RefusesAll old Memory = old.store.offline ≡ None
RefusesAll old refusal = ⊥

-- all is collected, or the call is refused
abbrev pub CollectsEvery : {D : Type 0} → Meaning D → Core D → Core D → Result (Unit {0}) Refusal → Type 0
CollectsEvery m old new (Ok done) = CollectsAll m old new
CollectsEvery m old new (Err refusal) = (RefusesAll old refusal × (new ≡ old)) ⊎ FailsAll m old new refusal
