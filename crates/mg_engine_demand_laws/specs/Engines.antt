-- An engine that was opened over a sound image, and obeys calls: every image that a crash may leave is linked.
use Rattle.std.specs.Prelude.{◌≡◌, ℕ, List, Option, Some}
use Rattle.mg_base.specs.Disk.{Meaning}
use Rattle.mg_base.specs.Image.{Image}
use Rattle.mg_base.specs.declared.numbers.RecId.{RecId}
use Rattle.mg_base.specs.declared.numbers.TxNo.{TxNo}
use Rattle.mg_base.specs.declared.transaction.TxState.{TxState}
use Rattle.mg_demand_laws.specs.PoolTies.{cache_over}
use Rattle.mg_careful.specs.CarefulWrite.{IsClosed, IsLinked, PageSet, listed, overlay}
use Rattle.mg_core.specs.Beginning.{Begins}
use Rattle.mg_core.specs.Committing.{Asks, WritesOne}
use Rattle.mg_core.specs.Cores.{IsCore}
use Rattle.mg_core.specs.Ending.{Commits}
use Rattle.mg_core.specs.Events.{RollsBack}
use Rattle.mg_core.specs.Putting.{PutsRow}
use Rattle.mg_core.specs.declared.parts.Core.{Core}
use Rattle.mg_engine_demand_laws.specs.Fates.{StoodBefore}
use Rattle.mg_engine_demand_laws.specs.Laying.{KnowsLay}
use Rattle.mg_engine_demand_laws.specs.Runs.{OpensAt}
use Rattle.mg_image.specs.Records.{Reading}
use Rattle.mg_image.specs.Tables.{Layout}
use Rattle.mg_model.specs.declared.event.Mode.{Mode}
use Rattle.mg_model.specs.declared.table.Table.{Table}
use Rattle.mg_records.specs.declared.write.Write.{Write}
use Rattle.mg_row_writes.specs.Bare.{IsBare}
use Rattle.mg_row_writes.specs.BareLaws.{bare_lays}
use Rattle.mg_demand_laws.specs.Roots.{roots_of}
use Rattle.mg_space.specs.Demands.{demands_of, meets_of}
use Rattle.mg_space.specs.View.{KeepsStore, Tells}
use Rattle.mg_table_making.specs.Creating.{PutsTable}
use Rattle.mg_value.specs.declared.shape.Shape.{Shape}
use Rattle.mg_value.specs.declared.value.Value.{Value}
use Rattle.mg_works.specs.Works.{AreApart}
use Rattle.mg_engine_demand_laws.specs.Calls.{IsSoundAt, MayCommit, laying_at}
use Rattle.mg_engine_demand_laws.specs.Moments.{moment_of}
use Rattle.mg_engine_demand_laws.specs.TableCalls.{KnowsMaking}

-- One call, and what is known of the pages where it is made: an engine, the image that its disk tells, and where its
-- tables stand, before and after.
pub data Obeys {D : Type 0} (m : Meaning D) : Core D → Image → Layout → Core D → Image → Layout → Type 0 where
  a_start : (old new : Core D) (session : ℕ) (mode : Mode) (t : ℕ) (i j : Image) (layout : Layout) (r : Reading)
      (state : ℕ → TxState) → IsSoundAt m old i layout r state → IsCore m new → Begins m old new session mode t
      → m.held new.store.disk ≡ Some j → Obeys m old i layout new j layout
  an_asking : (old new : Core D) (t : ℕ) (i : Image) (layout : Layout) → AreApart old.works → Asks old new t
      → Obeys m old i layout new i layout
  a_page : (old new : Core D) (goal page : ℕ) (i j : Image) (layout : Layout) → WritesOne m old new goal page
      → Tells m old.store.disk i → m.held new.store.disk ≡ Some j → Obeys m old i layout new j layout
  a_commit : (old new : Core D) (t : ℕ) (i k j : Image) (layout : Layout) (r : Reading) (state : ℕ → TxState)
      → IsSoundAt m old i layout r state → (commits : Commits m old new t) → MayCommit m old new t i k commits
      → m.held new.store.disk ≡ Some j → Obeys m old i layout new j layout
  a_rollback : (old new : Core D) (t : ℕ) (i : Image) (layout later : Layout) → RollsBack old new t
      → StoodBefore layout later → Obeys m old i layout new i later
  a_read : (old new : Core D) (i : Image) (layout : Layout) → KeepsStore m old.store new.store → new.list ≡ old.list
      → new.works ≡ old.works → Obeys m old i layout new i layout
  a_row : (old new : Core D) (t : TxNo) (table : Table) (write : Write) (key : Value) (rec : Option RecId) (i j : Image)
      (layout later : Layout) (puts : PutsRow m old new t table write key rec) (bare : IsBare table)
      → Tells m old.store.disk i → m.held new.store.disk ≡ Some j
      → KnowsLay m (laying_at puts.read new i layout) new.store later t.0 table puts.version puts.before.way
      (bare_lays m table bare puts.read.store new.store puts.before.way write puts.version puts.laid.lays)
      → Obeys m old i layout new j later
  a_table : (old new : Core D) (t : TxNo) (name : List ℕ) (shape : Shape) (keys : List Value) (table : Table)
      (i j : Image) (layout later : Layout) (puts : PutsTable m old new t name shape keys)
      → old.catalog.pointer.0 ≡ table.pointer.0 → m.held new.store.disk ≡ Some j
      → KnowsMaking m (laying_at old new i layout) new.store later t.0 table old.catalog name shape puts.makes
      → Obeys m old i layout new j later

-- any number of calls
pub data ObeysAll {D : Type 0} (m : Meaning D) : Core D → Image → Layout → Core D → Image → Layout → Type 0 where
  rests : (core : Core D) (i : Image) (layout : Layout) → ObeysAll m core i layout core i layout
  obeys : (first mid last : Core D) (i k j : Image) (layout midway later : Layout) → Obeys m first i layout mid k midway
      → ObeysAll m mid k midway last j later → ObeysAll m first i layout last j later

-- the law: whatever calls an engine has obeyed, each image that a crash may leave is linked from the roots of the one
-- that was opened
abbrev pub EnginesStayLinked : (D : Type 0) → Meaning D → Type 0
EnginesStayLinked D m = (first last : Core D) (i j : Image) (layout later : Layout) (r : Reading)
    → OpensAt (moment_of first i layout) r → ObeysAll m first i layout last j later → (set_ : PageSet)
    → IsClosed (cache_over last.store j) set_
    → IsLinked demands_of meets_of (overlay (cache_over last.store j) set_)
    (listed (roots_of first.store.geometry.size layout))
