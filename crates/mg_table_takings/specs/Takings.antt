-- A transaction takes back all that it has changed since a point, with tables that it has made.
use Rattle.std.specs.Prelude.{◌≡◌, ◌≢◌, ℕ, Bool, true, false, List, [], ◌∷◌, Some, Result, Ok, Err}
use Rattle.mg_base.specs.Disk.{Meaning}
use Rattle.mg_value.specs.declared.value.Value.{Value}
use Rattle.mg_model.specs.declared.change.Point.{Point}
use Rattle.mg_model.specs.declared.change.Point.TheVariants.{SavepointNamed}
use Rattle.mg_model.specs.declared.refusal.Refusal.{Refusal}
use Rattle.mg_model.specs.declared.refusal.Refusal.TheVariants.{Memory}
use Rattle.mg_space.specs.declared.fault.SpaceFault.{SpaceFault}
use Rattle.mg_txlist.specs.TxList.{said}
use Rattle.mg_undo.specs.Machine.{going_to}
use Rattle.mg_undo.specs.Undo.{State as Undo, TakesBack, take_back}
use Rattle.mg_undo.specs.declared.changes.Change.{Change}
use Rattle.mg_works.specs.Works.{Working, has_savepoint, with_undo, with_work, without_tables, without_written, work_of}
use Rattle.mg_core.specs.declared.parts.Core.{Core}
use Rattle.mg_core.specs.Cores.{Continues}
use Rattle.mg_core.specs.Events.{EndsWait, IsRefused}
use Rattle.mg_core.specs.Refusing.{CountsFault, IsRefusal, NamesLimit}
use Rattle.mg_taking_back.specs.Changes.{FailsChange}
use Rattle.mg_taking_back.specs.Taking.{Gives, GivesUpBy, HasBegun, MayReach, TakesChanges, not_asking}
use Rattle.mg_table_unmaking.specs.Rows.{FailsRowOut, TakesRowOut}
use Rattle.mg_table_takings.specs.Keys.{AreKeysGiven, others_of}

-- ---- the changes of other tables

-- All is taken back that is given from here on, but for the catalog's rows.
pub record TakesOthers {D : Type 0} (m : Meaning D) (old new : Core D) (t : ℕ) (start end : Undo) : Type 0 where
  pub given : List Change
  pub steps : TakesBack start given end
  pub takes : TakesChanges m t old (others_of old.catalog.pointer.0 given) new

-- Some changes are taken back, and the next one of another table is not.
pub record StopsOthers {D : Type 0} (m : Meaning D) (old new : Core D) (t : ℕ) (start : Undo) (refusal : Refusal)
    : Type 0 where
  pub given : List Change
  pub left : Undo
  pub steps : Gives start given left
  pub at : Core D
  pub takes : TakesChanges m t old (others_of old.catalog.pointer.0 given) at
  pub change : Change
  pub next : (take_back left).given ≡ Some change
  pub other : change.table ≢ old.catalog.pointer.0
  pub fails : FailsChange m at new t change refusal

-- ---- the rows of the catalog

-- The row of a key is taken out in a batch of its own; only the pages have changed.
pub record TakesTheRow {D : Type 0} (m : Meaning D) (old new : Core D) (t : ℕ) (key : Value) : Type 0 where
  pub takes : TakesRowOut m old.store new.store (said old.list) old.live t old.catalog key
  pub same : new ≡ record old { store = new.store }

-- It is not, and the fault on the pages is told and counted.
pub record FailsTheRow {D : Type 0} (m : Meaning D) (old new : Core D) (t : ℕ) (key : Value) (refusal : Refusal)
    : Type 0 where
  pub fault : SpaceFault
  pub fails : FailsRowOut m old.store new.store (said old.list) old.live t old.catalog key fault
  pub is : IsRefusal fault refusal
  pub names : NamesLimit new.store.geometry.limit refusal
  pub counts : CountsFault fault old.damage new.damage old.shortages new.shortages
  pub same : new ≡ record old { store = new.store; damage = new.damage; shortages = new.shortages }

-- the rows under these keys are taken out, one after another
pub data TakesRows {D : Type 0} (m : Meaning D) (t : ℕ) : List Value → Core D → Core D → Type 0 where
  no_row : (core : Core D) → TakesRows m t [] core core
  one_row : (key : Value) (keys : List Value) (old mid new : Core D) → TakesTheRow m old mid t key
      → TakesRows m t keys mid new → TakesRows m t (key ∷ keys) old new

-- some are, and then a fault on the pages ends it: the next row stands
pub data FailsRows {D : Type 0} (m : Meaning D) (t : ℕ) (refusal : Refusal) : List Value → Core D → Core D → Type 0 where
  row_stands : (key : Value) (keys : List Value) (old new : Core D) → FailsTheRow m old new t key refusal
      → FailsRows m t refusal (key ∷ keys) old new
  later_row : (key : Value) (keys : List Value) (old mid new : Core D) → TakesTheRow m old mid t key
      → FailsRows m t refusal keys mid new → FailsRows m t refusal (key ∷ keys) old new

-- ---- both

-- The changes of other tables are taken back, and then the rows of the catalog under these keys.
pub record TakesBoth {D : Type 0} (m : Meaning D) (old new : Core D) (t : ℕ) (start end : Undo) (keys : List Value)
    : Type 0 where
  pub mid : Core D
  pub others : TakesOthers m old mid t start end
  pub rows : TakesRows m t keys mid new

-- Or it stops at a change of another table, or at a row of the catalog.
pub data StopsBoth {D : Type 0} (m : Meaning D) (old new : Core D) (t : ℕ) (start : Undo) (keys : List Value)
    (refusal : Refusal) : Type 0 where
  stops_at_other : StopsOthers m old new t start refusal → StopsBoth m old new t start keys refusal
  stops_at_rows : (mid : Core D) (end : Undo) → TakesOthers m old mid t start end
      → FailsRows m t refusal keys mid new → StopsBoth m old new t start keys refusal

-- ---- to a point

-- The works where all is taken back: this is what is left to take back; the tables whose rows go, under these keys, are no
-- longer kept as written into; and no table is known as given.
abbrev pub works_left : ℕ → Undo → List Value → List Working → List Working
works_left t end keys works =
    with_work t without_tables (with_work t (without_written keys) (with_work t (with_undo end) works))

-- Once the event has begun: all is taken back that is given from some list on, the rows of the catalog last, and what is
-- left of it is kept.
pub record TakesTablesFrom {D : Type 0} (m : Meaning D) (begun new : Core D) (t : ℕ) (start : Undo) : Type 0 where
  pub keys : List Value
  pub rows : AreKeysGiven begun.catalog.pointer.0 start keys
  pub taken : Core D
  pub end : Undo
  pub takes : TakesBoth m (not_asking t begun) taken t start end keys
  pub same : new ≡ record taken { works = works_left t end keys taken.works }

-- Or it is not. Which rows go is not found out, for want of memory, and the transaction is given up; or the taking back
-- stops. What there is to take back is then as it was, or the transaction is given up.
pub data FailsTablesFrom {D : Type 0} (m : Meaning D) (begun new : Core D) (t : ℕ) (start : Undo) (refusal : Refusal)
    : Type 0 where
  rows_unknown : refusal ≡ Memory → GivesUpBy begun new t refusal → FailsTablesFrom m begun new t start refusal
  tables_stopped : (keys : List Value) (stopped : Core D) → AreKeysGiven begun.catalog.pointer.0 start keys
      → StopsBoth m (not_asking t begun) stopped t start keys refusal → GivesUpBy stopped new t refusal
      → FailsTablesFrom m begun new t start refusal

-- A transaction is taken back to a point, over tables that it has made since.
pub record TakesTablesTo {D : Type 0} (m : Meaning D) (old new : Core D) (t : ℕ) (point : Point) : Type 0 where
  pub begun : Core D
  pub undo : Undo
  pub has_begun : HasBegun old begun t undo
  pub reaches : MayReach undo point
  pub takes : TakesTablesFrom m begun new t (going_to undo point)

-- Why it is not: the event is refused; what it has to take back is not copied, for want of memory, and it is given up;
-- or not all is taken back.
pub data FailsTablesTo {D : Type 0} (m : Meaning D) (old new : Core D) (t : ℕ) (point : Point) (refusal : Refusal)
    : Type 0 where
  tables_not_begun : IsRefused old new t refusal → FailsTablesTo m old new t point refusal
  tables_not_copied : (begun : Core D) → Continues old t → EndsWait old begun t → refusal ≡ Memory
      → GivesUpBy begun new t refusal → FailsTablesTo m old new t point refusal
  tables_not_taken : (begun : Core D) (undo : Undo) → HasBegun old begun t undo → MayReach undo point
      → FailsTablesFrom m begun new t (going_to undo point) refusal → FailsTablesTo m old new t point refusal

-- a transaction is taken back to its last savepoint of a name; without one nothing has changed
abbrev pub GoesBackOver : {D : Type 0} → Meaning D → Core D → Core D → ℕ → List ℕ → Result Bool Refusal → Type 0
GoesBackOver m old new t name (Ok true) = (has_savepoint (work_of old.works t) name ≡ true)
    × TakesTablesTo m old new t (SavepointNamed name)
GoesBackOver m old new t name (Ok false) = (has_savepoint (work_of old.works t) name ≡ false)
    × Continues old t × (new ≡ old)
GoesBackOver m old new t name (Err refusal) = FailsTablesTo m old new t (SavepointNamed name) refusal
