-- The steps of an engine's calls, one after another: its cache bears its demands behind each, so every image that a crash
-- may leave is linked.
use Rattle.std.specs.Prelude.{◌≡◌, ◌≢◌, ℕ, true, false, List, None, Some}
use Rattle.mg_base.specs.Disk.{Meaning}
use Rattle.mg_base.specs.Image.{Image}
use Rattle.mg_base.specs.declared.numbers.PageNo.{PageNo}
use Rattle.mg_base.specs.declared.numbers.RecId.{RecId}
use Rattle.mg_base.specs.declared.transaction.TxState.{TxState}
use Rattle.mg_base.specs.declared.transaction.TxState.TheVariants.{Active, Committed}
use Rattle.mg_careful.specs.CarefulWrite.{IsClosed, IsLinked, PageSet, listed, overlay}
use Rattle.mg_chain.specs.Writing.{GivesSpot, MakesRecord, Pushes, Replaces, TakesOut}
use Rattle.mg_demand_laws.specs.Starts.{IsOpened}
use Rattle.mg_heap.specs.Room.{GivesRoom}
use Rattle.mg_image.specs.Form.{packed_form}
use Rattle.mg_image.specs.Records.{Reading, cells_of}
use Rattle.mg_image.specs.Sound.{IsSoundBy}
use Rattle.mg_image.specs.Tables.{Layout}
use Rattle.mg_model.specs.Answers.{is_committed}
use Rattle.mg_model.specs.declared.table.Table.{Table}
use Rattle.mg_pool.specs.Batch.{Changed}
use Rattle.mg_pool.specs.Dirty.{is_marked}
use Rattle.mg_pool.specs.Pool.{shown}
use Rattle.mg_pool.specs.Run.{HasWritten}
use Rattle.mg_pool.specs.declared.pool.Pool.{Pool}
use Rattle.mg_batches.specs.Batches.{nothing_yet}
use Rattle.mg_demand_laws.specs.Roots.{roots_of}
use Rattle.mg_space.specs.Demands.{demands_of, meets_of}
use Rattle.mg_space.specs.View.{KeepsStore, Tells}
use Rattle.mg_space.specs.declared.links.FireLinks.{FireLinks}
use Rattle.mg_table_batch.specs.Filling.{FillsTable}
use Rattle.mg_txlist.specs.TxList.{next_said}
use Rattle.mg_txlist.specs.declared.list.TxList.{TxList}
use Rattle.mg_tie_laws.specs.DrawTies.{DrawsFrom}
use Rattle.mg_value.specs.declared.shape.Shape.{Shape}
use Rattle.mg_version.specs.declared.cell.Version.{Version}
use Rattle.mg_demand_laws.specs.PoolTies.{cache_over}
use Rattle.mg_engine_demand_laws.specs.Bearing.{Fates, asks}
use Rattle.mg_engine_demand_laws.specs.Fates.{AsksNow, HasCommitted, StoodBefore}
use Rattle.mg_engine_demand_laws.specs.Numbers.{CommitsIn, HasBegun}
use Rattle.mg_engine_demand_laws.specs.Stores.{ChangesStore}
use Rattle.mg_engine_demand_laws.specs.Wanted.{IsPageOf}
use Rattle.mg_engine_demand_laws.specs.Writes.{StoodOrBegins, WritesInto}

-- An engine at a moment: its store, over the image that its disk tells; what its memory says of its transactions; and
-- where its tables stand.
pub record Moment (D : Type 0) : Type 0 where
  pub store : Pool D FireLinks
  pub image : Image
  pub fates : Fates
  pub layout : Layout

-- What a batch of a transaction is filled with, that writes into a table: a place for a record, a record, a version over
-- one that has committed, its own version in place of its own, an own or a dead version that is taken out, a page for the
-- catalog, or all of a new table.
pub data Fills {D : Type 0} (at : Moment D) (later : Layout) (t : ℕ) (table : Table) (batch : Changed) : Type 0 where
  a_place : (rec : RecId) → StoodBefore at.layout later
      → GivesSpot at.store at.image nothing_yet batch table.pointer.0 rec → Fills at later t table batch
  a_record : (rec : RecId) (v : Version) → StoodBefore at.layout later
      → MakesRecord at.store at.image nothing_yet batch table.pointer.0 rec v → v.tx.0 ≡ t
      → IsPageOf at.layout rec.page.0 table → cells_of (shown at.store.dirty at.image) rec ≡ None
      → Fills at later t table batch
  a_version : (rec : RecId) (v : Version) → StoodBefore at.layout later
      → (pushes : Pushes at.store at.image nothing_yet batch rec v) → v.tx.0 ≡ t → IsPageOf at.layout rec.page.0 table
      → at.fates.state pushes.newest.tx.0 ≡ Committed → Fills at later t table batch
  a_replacement : (rec : RecId) (v : Version) → StoodBefore at.layout later
      → Replaces at.store at.image nothing_yet batch rec v → v.tx.0 ≡ t → IsPageOf at.layout rec.page.0 table
      → Fills at later t table batch
  a_taking_out : (rec : RecId) → StoodBefore at.layout later → (takes : TakesOut at.store at.image nothing_yet batch rec)
      → IsPageOf at.layout rec.page.0 table → is_committed (at.fates.state takes.newest.tx.0) ≡ false
      → Fills at later t table batch
  a_growth : (need : ℕ) (n : PageNo) → StoodBefore at.layout later
      → GivesRoom at.store at.image nothing_yet batch table.pointer.0 need n → Fills at later t table batch
  a_table : (catalog : Table) (name : List ℕ) (shape : Shape) → catalog.pointer.0 ≡ table.pointer.0
      → (fills : FillsTable at.store at.image catalog t name shape nothing_yet batch)
      → StoodOrBegins at.layout later fills.page → Fills at later t table batch

-- Memory tells less: none has come to have committed, to ask for its commit, or to be active; each table stood before.
pub record TellsFewer (old new : Fates) (layout later : Layout) : Type 0 where
  pub committed : (t : ℕ) → is_committed (new.state t) ≡ is_committed (old.state t)
  pub asking : (t : ℕ) → asks new t ≡ true → (asks old t ≡ true) × (new.session t ≡ old.session t)
  pub active : (t : ℕ) → new.state t ≡ Active → old.state t ≡ Active
  pub tables : StoodBefore layout later

-- the step from one moment to the next
pub data GoesBy {D : Type 0} (m : Meaning D) : Moment D → Moment D → Type 0 where
  only_reads : (at : Moment D) (store : Pool D FireLinks) → KeepsStore m at.store store
      → GoesBy m at (record at { store = store })
  writes_pages : (at : Moment D) (store : Pool D FireLinks) (j : Image) → HasWritten m at.store store
      → Tells m at.store.disk at.image → m.held store.disk ≡ Some j
      → GoesBy m at (record at { store = store; image = j })
  puts_batch : (at : Moment D) (store : Pool D FireLinks) (j : Image) (later : Layout) (r : Reading) (t : ℕ)
      (table : Table) (batch : Changed) → ChangesStore m at.store store at.image j batch
      → WritesInto at.store at.image at.fates at.layout r t table → Fills at later t table batch
      → GoesBy m at (record at { store = store; image = j; layout = later })
  draws : (at : Moment D) (old now : TxList) (store : Pool D FireLinks) (j : Image) (begun : Fates) (r : Reading)
      (state : ℕ → TxState) → DrawsFrom m old now at.store store at.image j
      → IsSoundBy packed_form at.store.geometry.size state (shown at.store.dirty at.image) at.layout r
      → HasBegun at.fates begun (next_said old)
      → GoesBy m at (record at { store = store; image = j; fates = begun })
  asks_commit : (at : Moment D) (store : Pool D FireLinks) (fates : Fates) (t : ℕ)
      → store ≡ record at.store { dirty = store.dirty }
      → cache_over store at.image ≡ cache_over at.store at.image
      → AsksNow (cache_over at.store at.image) (is_marked at.store.dirty) (is_marked store.dirty) at.fates fates t
      → GoesBy m at (record at { store = store; fates = fates })
  commits : (at : Moment D) (old now : TxList) (store : Pool D FireLinks) (k j : Image) (t : ℕ) (ended : Fates)
      (r : Reading) (state : ℕ → TxState) → CommitsIn m old now at.store store at.image k j t
      → IsSoundBy packed_form at.store.geometry.size state (shown at.store.dirty at.image) at.layout r
      → HasCommitted (is_marked at.store.dirty) at.fates ended t
      → GoesBy m at (record at { store = store; image = j; fates = ended })
  tells : (at : Moment D) (fates : Fates) (later : Layout) → TellsFewer at.fates fates at.layout later
      → GoesBy m at (record at { fates = fates; layout = later })

-- any number of steps
pub data GoesOn {D : Type 0} (m : Meaning D) : Moment D → Moment D → Type 0 where
  stays : (at : Moment D) → GoesOn m at at
  goes : (first mid last : Moment D) → GoesBy m first mid → GoesOn m mid last → GoesOn m first last

-- A moment at which a sound image was opened: nothing is dirty, and no transaction is active.
pub record OpensAt {D : Type 0} (at : Moment D) (r : Reading) : Type 0 where
  pub opened : IsOpened packed_form at.store.geometry.size at.fates.state (cache_over at.store at.image) at.layout r
  pub idle : (t : ℕ) → at.fates.state t ≢ Active

-- the law: whatever steps have followed, each image that a crash may leave is linked from the roots of the one that was
-- opened
abbrev pub RunsStayLinked : (D : Type 0) → Meaning D → Type 0
RunsStayLinked D m = (first last : Moment D) (r : Reading) → OpensAt first r → GoesOn m first last
    → (set_ : PageSet) → IsClosed (cache_over last.store last.image) set_
    → IsLinked demands_of meets_of (overlay (cache_over last.store last.image) set_)
    (listed (roots_of first.store.geometry.size first.layout))
