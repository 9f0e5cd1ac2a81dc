-- What an engine has in memory as a standing, and which history an engine stands for.
use Rattle.std.specs.Prelude.{◌≡◌, ◌⊎◌, ◌<◌, ℕ, Bool, true, false, List, [], ◌∷◌, Option, None, Some}
use Rattle.mg_base.specs.Disk.{Meaning}
use Rattle.mg_base.specs.Image.{Image}
use Rattle.mg_directory.specs.Candidates.{by_table}
use Rattle.mg_grown_catalog_laws.specs.Grown.{CatalogGrows}
use Rattle.mg_header.specs.declared.header.TheConstants.{GREATEST_NEXT}
use Rattle.mg_image.specs.Form.{Pages, packed_form}
use Rattle.mg_image.specs.Inventory.{header_of, next_of}
use Rattle.mg_image_overlay_laws.specs.tables.TableOwners.{IsOneOf}
use Rattle.mg_lasting_laws.specs.Lasting.{LastsOn, LeftOn}
use Rattle.mg_model.specs.declared.event.Mode.{Mode}
use Rattle.mg_model.specs.declared.opening.Opening.{Opening}
use Rattle.mg_model.specs.declared.table.Table.{Table}
use Rattle.mg_model.specs.History.{Entries}
use Rattle.mg_pool.specs.Pool.{shown}
use Rattle.mg_pool_overlay_laws.specs.Needs.{Asked, Sessions}
use Rattle.mg_engine_step_laws.specs.standing.Standing.{Standing, Stands}
use Rattle.mg_txlist.specs.TxList.{next_said, said}
use Rattle.mg_txlist.specs.declared.list.TxList.{TxList}
use Rattle.mg_tie_laws.specs.CommitTies.{ShowsTip}
use Rattle.mg_undo.specs.Undo.{State as Undo}
use Rattle.mg_undo.specs.declared.changes.Change.{Change}
use Rattle.mg_waits.specs.Waits.{edges_in}
use Rattle.mg_works.specs.Works.{Working, given_to, work_of, written_in}
use Rattle.mg_core.specs.declared.parts.Core.{Core}
use Rattle.mg_engine_meaning_laws.specs.KnownRecords.{KnowsIts}
use Rattle.mg_engine_meaning_laws.specs.Formers.{MayReturnTo}
use Rattle.mg_engine_meaning_laws.specs.LawfulBases.{BasesAreLawful}
use Rattle.mg_engine_meaning_laws.specs.PlainTables.{HasPlainTables}

-- ---- memory

-- how a transaction runs, by its work; of one that is not active nothing is kept
abbrev pub mode_kept : Option Working → Mode
mode_kept None = record { read_only = true; wait = false; snapshot = true }
mode_kept (Some work) = work.mode

abbrev pub session_kept : Option Working → ℕ
session_kept None = 0
session_kept (Some work) = work.session

abbrev pub undo_kept : Option Working → Undo
undo_kept None = record { changes = []; points = []; going_back = false }
undo_kept (Some work) = work.undo

abbrev pub asked_kept : Option Working → Bool
asked_kept None = false
asked_kept (Some work) = work.asked

-- which transactions have asked for their commit, and by which session the pages of each are marked
abbrev pub asked_in : List Working → Asked
asked_in works t = asked_kept (work_of works t)

abbrev pub sessions_in : List Working → Sessions
sessions_in works t = session_kept (work_of works t)

-- The tables that an active transaction sees under a name, and the number by which what it has to take back
-- names a table, are on the pages; of both the memory has only what was asked for.
abbrev pub Numbers : Type 0
Numbers = ℕ → List ℕ → ℕ

abbrev pub Tables : Type 0
Tables = ℕ → List ℕ → Option Table

-- the memory of an engine as a standing, with these tables
abbrev pub standing_of : {D : Type 0} → Core D → Numbers → Tables → Standing
standing_of core numbers tables = record {
  limit = GREATEST_NEXT;
  next = next_said core.list;
  state = said core.list;
  mode = λ t. mode_kept (work_of core.works t);
  session = sessions_in core.works;
  live = core.live;
  waits = edges_in core.waits;
  undo = λ t. undo_kept (work_of core.works t);
  number = numbers;
  table = tables;
}

-- a table that was given to a transaction is one that it sees
abbrev pub AreSeen : List Working → Tables → Type 0
AreSeen works tables = (t : ℕ) (name : List ℕ) (table : Table) → given_to works t name ≡ Some table
    → tables t name ≡ Some table

-- ---- what is kept for taking back

-- the tables that a transaction has written into
abbrev pub written_kept : Option Working → List Table
written_kept None = []
written_kept (Some work) = work.written

-- the table that is seen is this one, with all its indexes
abbrev pub SeesIt : Option Table → Table → Type 0
SeesIt its table = its ≡ Some table

-- each of these changes is one of the catalog, which begins at a page, or of a table that is kept, to which what was may
-- come back
abbrev pub AreOfKept : ℕ → List Table → List Change → Type 0
AreOfKept catalog written [] = Unit {0}
AreOfKept catalog written (c ∷ cs) =
    ((c.table ≡ catalog) ⊎ MayReturnTo (written_in written c.table) c.key c.was) × AreOfKept catalog written cs

-- each change that a transaction has to take back is
abbrev pub AreTold : ℕ → Option Working → Type 0
AreTold catalog work = AreOfKept catalog (written_kept work) (undo_kept work).changes

-- The tables that transactions keep, since they have written into them: each is one that its transaction sees, and
-- each change that a transaction has to take back is of one of these, to which what was may come back, or of the catalog.
pub record KeepsWritten (catalog : ℕ) (works : List Working) (tables : Tables) : Type 0 where
  pub seen : (t : ℕ) (table : Table) → IsOneOf (written_kept (work_of works t)) table
      → SeesIt (tables t table.name) table
  pub told : (t : ℕ) → AreTold catalog (work_of works t)

-- ---- pages

-- the transaction list has a copy of each transaction inventory page, as the cache shows it
abbrev pub HasTips : TxList → ℕ → Pages → Type 0
HasTips list size pages = (t : ℕ) → t < next_of pages → ShowsTip list size pages t

-- The pages of an engine that stands for a history: they show it, every crash leaves what it has to, the
-- transaction list has the pages of all transactions, the catalog begins where the header says, each table is plain,
-- the catalog has no directory of keys, each table that has one has each of its records there, under its key, and rows
-- of the catalog that have come since the history began stand alone in their records.
pub record ShowsIt {D : Type 0} (m : Meaning D) (core : Core D) (o : Opening) (h : Entries)
    (s : Standing) : Type 0 where
  pub image : Image
  pub held : m.held core.store.disk ≡ Some image
  pub stands : Stands packed_form core.store.geometry.size o h s
      (Some (shown core.store.dirty image))
  pub lasts : LastsOn m packed_form o h core.store (asked_in core.works) (sessions_in core.works)
  pub tips : HasTips core.list core.store.geometry.size (shown core.store.dirty image)
  pub catalog : core.catalog.pointer.0 ≡ (header_of (shown core.store.dirty image)).catalog.0
  pub plain_tables : HasPlainTables core.store.geometry.size (said core.list) (shown core.store.dirty image)
  pub no_directory : by_table core.directories.dirs core.catalog.pointer.0 ≡ None
  pub known : KnowsIts o.next.0 core.store.geometry.size (said core.list) (shown core.store.dirty image) core.directories

-- Once a page write has failed: memory is what the history says, and every crash leaves what it has to.
pub record KeepsIt {D : Type 0} (m : Meaning D) (core : Core D) (o : Opening) (h : Entries)
    (s : Standing) : Type 0 where
  pub stands : Stands packed_form core.store.geometry.size o h s None
  pub left : LeftOn m packed_form o h core.store

abbrev pub StandsWhile : {D : Type 0} → Meaning D → Core D → Opening → Entries → Standing → Option ℕ
    → Type 0
StandsWhile m core o h s None = ShowsIt m core o h s
StandsWhile m core o h s (Some faults) = KeepsIt m core o h s

-- ---- both

-- An engine over a disk that tells its images stands for the history that begins so and has these entries.
pub record StandsFor {D : Type 0} (m : Meaning D) (core : Core D) (o : Opening) (h : Entries)
    : Type 0 where
  pub tells : m.tells core.store.disk ≡ true
  -- rows of the catalog are only made, and each base has whole tables
  pub grows : CatalogGrows o h
  pub bases : BasesAreLawful o h
  pub numbers : Numbers
  pub tables : Tables
  pub given : AreSeen core.works tables
  pub kept : KeepsWritten core.catalog.pointer.0 core.works tables
  pub stands : StandsWhile m core o h (standing_of core numbers tables) core.store.offline
