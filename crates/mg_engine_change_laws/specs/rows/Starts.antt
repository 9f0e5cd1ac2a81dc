-- Where an engine that has read all that a write asks for lays entries first, as laws: where pages were read, once a place was
-- taken, or once a dead transaction's version was taken out. And how it stands behind some entries, and behind all of a row.
use Rattle.std.specs.Prelude.{◌≡◌, ◌++◌, ℕ, List, None, Some}
use Rattle.mg_base.specs.Disk.{Meaning}
use Rattle.mg_base.specs.declared.numbers.RecId.{RecId}
use Rattle.mg_base.specs.declared.numbers.TxNo.{TxNo}
use Rattle.mg_core.specs.Cores.{IsCore}
use Rattle.mg_core.specs.declared.parts.Core.{Core}
use Rattle.mg_engine_meaning_laws.specs.Meaning.{Places}
use Rattle.mg_engine_meaning_laws.specs.Standings.{StandsFor}
use Rattle.mg_entries.specs.Entries.{LaysAll}
use Rattle.mg_image.specs.Form.{Row}
use Rattle.mg_image.specs.Tables.{stands_of, table_at}
use Rattle.mg_model.specs.History.{Entries}
use Rattle.mg_model.specs.declared.opening.Opening.{Opening}
use Rattle.mg_model.specs.declared.table.Index.{Index}
use Rattle.mg_model.specs.declared.table.Table.{Table}
use Rattle.mg_pool.specs.Pool.{IsPool}
use Rattle.mg_pool.specs.declared.pool.Pool.{Pool}
use Rattle.mg_records.specs.Writing.{FitsShape}
use Rattle.mg_records.specs.declared.write.Write.{Write}
use Rattle.mg_row_writes.specs.Changing.{TakesNewestOut, TakesPlace}
use Rattle.mg_row_writes.specs.Laying.{EntersRow}
use Rattle.mg_row_writes.specs.Storing.{row_stored, written_at}
use Rattle.mg_row_writes.specs.declared.before.Before.{Before}
use Rattle.mg_row_writes.specs.declared.before.Way.TheVariants as ways
use Rattle.mg_space.specs.declared.links.FireLinks.{FireLinks}
use Rattle.mg_value.specs.declared.value.Value.{Value}
use Rattle.mg_version.specs.declared.cell.Version.{Version}
use Rattle.mg_works.specs.Works.{given_to}
use Rattle.mg_engine_change_laws.specs.entries.EnteredAllLaws.{AllEntered, RowEntered}
use Rattle.mg_engine_change_laws.specs.entries.EntryOverLaws.{StandsOver}
use Rattle.mg_engine_change_laws.specs.rows.Laid.{HasNoted}
use Rattle.mg_engine_change_laws.specs.rows.Refusals.{IsReady}

-- ---- where they are laid first

-- A place was taken: it is on a page of the table.
pub record StandsPlaced {D : Type 0} (m : Meaning D) (old : Core D) (store : Pool D FireLinks) (o : Opening) (h : Entries)
    (t : ℕ) (table : Table) (at : RecId) : Type 0 where
  pub it : StandsOver m old store o h t
  pub its : Table
  pub placed : table_at (stands_of it.shows.stands.shows.layout) at.page.0 ≡ Some its
  pub same : its.pointer ≡ table.pointer

-- A dead transaction's version was taken out: the record speaks for the key still.
pub record StandsCleared {D : Type 0} (m : Meaning D) (old : Core D) (store : Pool D FireLinks) (o : Opening) (h : Entries)
    (t : ℕ) (table : Table) (key : Value) (rec : RecId) : Type 0 where
  pub it : StandsOver m old store o h t
  pub speaks : it.shows.stands.shows.versions.speaker table.name key ≡ Some rec

-- The engine stands so in each of these.
pub record StartsOver {D : Type 0} (m : Meaning D) (old read : Core D) (o : Opening) (h : Entries) (t : ℕ) (table : Table)
    (write : Write) (before : Before) : Type 0 where
  pub at_read : StandsOver m old read.store o h t
  pub at_placed : before.way ≡ ways.Make → (placed : Pool D FireLinks) (at : RecId)
      → TakesPlace m read.store placed table.pointer.0 at → StandsPlaced m old placed o h t table at
  pub at_cleared : (rec : RecId) → before.way ≡ ways.PushOverDead rec → (cleared : Pool D FireLinks)
      → TakesNewestOut m read.store cleared rec
      → StandsCleared m old cleared o h t table (written_at table write) rec

abbrev pub StartsStand : (D P : Type 0) → Meaning D → Type 0
StartsStand D P m = (places : Places P) (old read : Core D) (t : TxNo) (table : Table) (write : Write)
    (before : Before) (version : Version) (o : Opening) (h : Entries) → IsCore m old
    → given_to old.works t.0 table.name ≡ Some table → HasNoted old.works t.0 table → FitsShape table.shape write
    → IsReady m old read t table write before version → StandsFor m old o h
    → StartsOver m old read o h t.0 table write before

-- ---- and behind them

-- the entries of a row were laid in the first indexes of its table
abbrev pub EntriesEnter : (D P : Type 0) → Meaning D → Type 0
EntriesEnter D P m = (places : Places P) (old read : Core D) (t : TxNo) (table : Table) (write : Write)
    (before : Before) (version : Version) (o : Opening) (h : Entries) → IsCore m old
    → given_to old.works t.0 table.name ≡ Some table → HasNoted old.works t.0 table → FitsShape table.shape write
    → IsReady m old read t table write before version → StandsFor m old o h
    → (a b : Pool D FireLinks) (it : StandsOver m old a o h t.0) → IsPool m a → a.offline ≡ None
    → a.geometry ≡ old.store.geometry → (indexes later : List Index) → table.indexes ≡ indexes ++ later → (p : RecId)
    (row : Row) → LaysAll m indexes p row a b → AllEntered m old a b o h t.0 it indexes p row

-- or all of the row of the write
abbrev pub RowsEnter : (D P : Type 0) → Meaning D → Type 0
RowsEnter D P m = (places : Places P) (old read : Core D) (t : TxNo) (table : Table) (write : Write)
    (before : Before) (version : Version) (o : Opening) (h : Entries) → IsCore m old
    → given_to old.works t.0 table.name ≡ Some table → HasNoted old.works t.0 table → FitsShape table.shape write
    → IsReady m old read t table write before version → StandsFor m old o h
    → (a b : Pool D FireLinks) (it : StandsOver m old a o h t.0) → IsPool m a → a.offline ≡ None
    → a.geometry ≡ old.store.geometry → (rec : RecId) → EntersRow m a b table rec write
    → RowEntered m old a b o h t.0 it table rec version (row_stored table write)
