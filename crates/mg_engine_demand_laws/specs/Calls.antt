-- The calls of an engine are steps of its runs: what each takes from the engine's contract, and from what it knows of its
-- pages.
use Rattle.std.specs.Prelude.{◌≡◌, ◌<◌, ℕ, true, false, Option, Some}
use Rattle.mg_base.specs.Disk.{Meaning}
use Rattle.mg_base.specs.Image.{Image}
use Rattle.mg_base.specs.declared.numbers.RecId.{RecId}
use Rattle.mg_base.specs.declared.numbers.TxNo.{TxNo}
use Rattle.mg_base.specs.declared.transaction.TxState.{TxState}
use Rattle.mg_core.specs.Beginning.{Begins}
use Rattle.mg_core.specs.Committing.{Asks, WritesOne}
use Rattle.mg_core.specs.Cores.{IsCore}
use Rattle.mg_core.specs.Ending.{Commits}
use Rattle.mg_core.specs.Events.{RollsBack}
use Rattle.mg_core.specs.Putting.{PutsRow}
use Rattle.mg_core.specs.declared.parts.Core.{Core}
use Rattle.mg_engine_demand_laws.specs.Fates.{StoodBefore}
use Rattle.mg_engine_demand_laws.specs.Laying.{KnowsLay}
use Rattle.mg_engine_demand_laws.specs.Runs.{GoesBy, GoesOn, Moment}
use Rattle.mg_image.specs.Form.{packed_form}
use Rattle.mg_image.specs.Inventory.{next_of}
use Rattle.mg_image.specs.Records.{Reading}
use Rattle.mg_image.specs.Sound.{IsSoundBy}
use Rattle.mg_image.specs.Tables.{Layout}
use Rattle.mg_model.specs.declared.event.Mode.{Mode}
use Rattle.mg_model.specs.declared.table.Table.{Table}
use Rattle.mg_pool.specs.Dirty.{is_marked}
use Rattle.mg_pool.specs.Pool.{shown}
use Rattle.mg_records.specs.declared.write.Write.{Write}
use Rattle.mg_row_writes.specs.Bare.{IsBare}
use Rattle.mg_row_writes.specs.BareLaws.{bare_lays}
use Rattle.mg_space.specs.View.{KeepsStore, Tells}
use Rattle.mg_txlist.specs.TxList.{next_said}
use Rattle.mg_tie_laws.specs.CommitTies.{ShowsTip}
use Rattle.mg_value.specs.declared.value.Value.{Value}
use Rattle.mg_works.specs.Works.{AreApart, work_of}
use Rattle.mg_engine_demand_laws.specs.Moments.{asked_by, fates_of, moment_of, session_by}

-- The pages of an engine are sound, and its list says the number that is drawn next.
pub record IsSoundAt {D : Type 0} (m : Meaning D) (core : Core D) (i : Image) (layout : Layout) (r : Reading)
    (state : ℕ → TxState) : Type 0 where
  pub is : IsCore m core
  pub tells : Tells m core.store.disk i
  pub sound : IsSoundBy packed_form core.store.geometry.size state (shown core.store.dirty i) layout r
  pub next : next_said core.list ≡ next_of (shown core.store.dirty i)

-- an engine before a version is laid, with what its memory says then of its transactions
abbrev pub laying_at : {D : Type 0} → Core D → Core D → Image → Layout → Moment D
laying_at read new image layout = record { store = read.store; image = image; fates = fates_of new; layout = layout }

-- a transaction begins
abbrev pub BeginsGo : (D : Type 0) → Meaning D → Type 0
BeginsGo D m = (old new : Core D) (session : ℕ) (mode : Mode) (t : ℕ) (i j : Image) (layout : Layout) (r : Reading)
    (state : ℕ → TxState) → IsSoundAt m old i layout r state → IsCore m new
    → Begins m old new session mode t → m.held new.store.disk ≡ Some j
    → GoesBy m (moment_of old i layout) (moment_of new j layout)

-- a commit is asked for
abbrev pub AsksGo : (D : Type 0) → Meaning D → Type 0
AsksGo D m = (old new : Core D) (t : ℕ) (i : Image) (layout : Layout) → AreApart old.works → Asks old new t
    → GoesBy m (moment_of old i layout) (moment_of new i layout)

-- a page is written
abbrev pub PagesGo : (D : Type 0) → Meaning D → Type 0
PagesGo D m = (old new : Core D) (goal page : ℕ) (i j : Image) (layout : Layout) → WritesOne m old new goal page
    → Tells m old.store.disk i → m.held new.store.disk ≡ Some j
    → GoesBy m (moment_of old i layout) (moment_of new j layout)

-- What is known where a commit is made: the transaction has asked for it, and none of its pages is marked any longer; the
-- list has the page of its bits as the cache shows it; `k` is the image once they were changed.
pub record MayCommit {D : Type 0} (m : Meaning D) (old new : Core D) (t : ℕ) (i k : Image)
    (commits : Commits m old new t) : Type 0 where
  pub asked : asked_by (work_of old.works t) ≡ true
  pub none_marked : (page : ℕ) → is_marked old.store.dirty page (session_by (work_of old.works t)) ≡ false
  pub midway : Tells m commits.bits.settles.changed.disk k
  pub shows : ShowsTip old.list old.store.geometry.size (shown old.store.dirty i) t
  pub drawn : t < next_of (shown old.store.dirty i)

-- a commit is made
abbrev pub CommitsGo : (D : Type 0) → Meaning D → Type 0
CommitsGo D m = (old new : Core D) (t : ℕ) (i k j : Image) (layout : Layout) (r : Reading) (state : ℕ → TxState)
    → IsSoundAt m old i layout r state → (commits : Commits m old new t) → MayCommit m old new t i k commits
    → m.held new.store.disk ≡ Some j
    → GoesBy m (moment_of old i layout) (moment_of new j layout)

-- a transaction is rolled back; the tables that it has made stand there no more
abbrev pub RollbacksGo : (D : Type 0) → Meaning D → Type 0
RollbacksGo D m = (old new : Core D) (t : ℕ) (i : Image) (layout later : Layout) → RollsBack old new t
    → StoodBefore layout later → GoesBy m (moment_of old i layout) (moment_of new i later)

-- pages are read, and faults are counted
abbrev pub ReadsGo : (D : Type 0) → Meaning D → Type 0
ReadsGo D m = (old new : Core D) (i : Image) (layout : Layout) → KeepsStore m old.store new.store
    → new.list ≡ old.list → new.works ≡ old.works
    → GoesBy m (moment_of old i layout) (moment_of new i layout)

-- A row is put into a table without indexes, by the transaction that writes it: the pages were sound and these are known,
-- once it is said that its commit is no longer asked for.
abbrev pub RowsGo : (D : Type 0) → Meaning D → Type 0
RowsGo D m = (old new : Core D) (t : TxNo) (table : Table) (write : Write) (key : Value) (rec : Option RecId)
    (i j : Image) (layout later : Layout) (puts : PutsRow m old new t table write key rec) (bare : IsBare table)
    → Tells m old.store.disk i → m.held new.store.disk ≡ Some j
    → KnowsLay m (laying_at puts.read new i layout) new.store later t.0 table puts.version puts.before.way
    (bare_lays m table bare puts.read.store new.store puts.before.way write puts.version puts.laid.lays)
    → GoesOn m (moment_of old i layout) (moment_of new j later)
