-- A version that was laid, as a keeper of records owes it.
use Rattle.std.specs.Prelude.{◌≡◌, ◌∷◌, ℕ, true, List, Some, None, is_some, ◌++◌}
use Rattle.mg_base.specs.Disk.{Meaning}
use Rattle.mg_base.specs.declared.numbers.RecId.{RecId}
use Rattle.mg_base.specs.declared.numbers.TxNo.{TxNo}
use Rattle.mg_image.specs.Form.{Pages, Row, packed_form}
use Rattle.mg_lasting_laws.specs.Crashes.{HoldsAcknowledged, LeavesSince}
use Rattle.mg_entries.specs.Entries.{LaysAll}
use Rattle.mg_model.specs.declared.table.Index.{Index}
use Rattle.mg_model.specs.declared.opening.Opening.{Opening}
use Rattle.mg_model.specs.declared.table.Table.{Table}
use Rattle.mg_model.specs.History.{Entries, Entry}
use Rattle.mg_model.specs.Legal.{IsLawful}
use Rattle.mg_records.specs.Writing.{FitsShape}
use Rattle.mg_records.specs.declared.write.Write.{Write}
use Rattle.mg_row_writes.specs.declared.before.Way.{Way}
use Rattle.mg_row_writes.specs.declared.before.Way.TheVariants as ways
use Rattle.mg_works.specs.Works.{Working, given_to, written_to}
use Rattle.mg_core.specs.declared.parts.Core.{Core}
use Rattle.mg_core.specs.Cores.{IsCore}
use Rattle.mg_core.specs.Writing.{Writes}
use Rattle.mg_engine_meaning_laws.specs.PlainTables.{HasPlainTables}
use Rattle.mg_engine_meaning_laws.specs.Meaning.{Places}
use Rattle.mg_engine_meaning_laws.specs.Standings.{StandsFor, standing_of}
use Rattle.mg_base.specs.Image.{Image}
use Rattle.mg_pool.specs.Pool.{IsPool, shown}
use Rattle.mg_pool.specs.declared.pool.Pool.{Pool}
use Rattle.mg_row_writes.specs.Changing.{TakesNewestOut, TakesPlace}
use Rattle.mg_row_writes.specs.declared.before.Before.{Before}
use Rattle.mg_space.specs.declared.links.FireLinks.{FireLinks}
use Rattle.mg_version.specs.declared.cell.Version.{Version}
use Rattle.mg_engine_change_laws.specs.rows.Refusals.{IsReady}
use Rattle.mg_engine_step_laws.specs.standing.Standing.{Standing}
use Rattle.mg_value.specs.declared.value.Value.{Value}
use Rattle.mg_engine_change_laws.specs.memory.Directories.{KeepsKnown}
use Rattle.mg_engine_change_laws.specs.rows.Walks.{OthersWalkOn, WalkInto}
use Rattle.mg_engine_change_laws.specs.rows.Kept.{made_by}
use Rattle.mg_engine_change_laws.specs.rows.Tips.{KeepsTips}

-- What a transaction's batch leaves of the pages beside the record: the pages of transactions, plain tables, the walks
-- of all others, and complete directories, where the record is noted under the key.
pub record LeavesPages (size : ℕ) (s : Standing) (t : ℕ) (pages later : Pages) (first : ℕ) (key : Value) (rec : RecId)
    : Type 0 where
  pub tips : KeepsTips size pages later
  pub plain : HasPlainTables size s.state later
  pub others : OthersWalkOn size s pages later t
  pub known : KeepsKnown size s.state pages later first key rec

-- walks go by states and bases alone
abbrev pub bare_standing : {D : Type 0} → Core D → Standing
bare_standing core = standing_of core (λ u name. 0) (λ u name. None)

-- A transaction's entry is lawful, the engine stands for the history with it, what a crash since the call began might
-- have left holds the history before it, and the walks of all others go on.
pub record GoesOnWith {D : Type 0} (m : Meaning D) (old new : Core D) (o : Opening) (h : Entries) (e : Entry) (t : ℕ)
    : Type 0 where
  pub lawful : IsLawful o h e
  pub stands : StandsFor m new o (e ∷ h)
  pub leaves : LeavesSince m old.store.disk new.store.disk (HoldsAcknowledged packed_form old.store.dirty.size o h)
  pub walks : (i : Image) → m.held old.store.disk ≡ Some i → WalkInto m old.store.geometry.size (bare_standing old)
      (shown old.store.dirty i) new.store (bare_standing new) t

-- a table is kept as one that a transaction writes into
abbrev pub HasNoted : List Working → ℕ → Table → Type 0
HasNoted works t table = is_some (written_to works t table.pointer.0) ≡ true

-- Since a call of a transaction began a batch that adds nothing was changed: the engine stands for the history, a crash
-- leaves it, and all others walk on.
pub record StaysOver {D : Type 0} (m : Meaning D) (old : Core D) (store : Pool D FireLinks) (o : Opening) (h : Entries)
    (t : ℕ) : Type 0 where
  pub stands : StandsFor m (record old { store = store }) o h
  pub leaves : LeavesSince m old.store.disk store.disk (HoldsAcknowledged packed_form old.store.dirty.size o h)
  pub walks : (i : Image) → m.held old.store.disk ≡ Some i → WalkInto m old.store.geometry.size (bare_standing old)
      (shown old.store.dirty i) store (bare_standing old) t

-- an engine that has read all that a write asks for stays so
abbrev pub ReadyStays : (D P : Type 0) → Meaning D → Type 0
ReadyStays D P m = (places : Places P) (old read : Core D) (t : TxNo) (table : Table) (write : Write)
    (before : Before) (version : Version) (o : Opening) (h : Entries) → IsCore m old
    → given_to old.works t.0 table.name ≡ Some table → HasNoted old.works t.0 table → FitsShape table.shape write
    → IsReady m old read t table write before version → StandsFor m old o h
    → StaysOver m old read.store o h t.0

-- and so it does while entries of a row are laid in the first indexes of the table
abbrev pub EntriesStayOver : (D P : Type 0) → Meaning D → Type 0
EntriesStayOver D P m = (places : Places P) (old read : Core D) (t : TxNo) (table : Table) (write : Write)
    (before : Before) (version : Version) (a b : Pool D FireLinks) (indexes later : List Index) (p : RecId) (row : Row)
    (o : Opening) (h : Entries) → IsCore m old → given_to old.works t.0 table.name ≡ Some table
    → HasNoted old.works t.0 table → FitsShape table.shape write
    → IsReady m old read t table write before version → StandsFor m old o h → StaysOver m old a o h t.0 → IsPool m a
    → a.offline ≡ None → a.geometry ≡ old.store.geometry → table.indexes ≡ indexes ++ later
    → LaysAll m indexes p row a b → StaysOver m old b o h t.0

-- the first batch of a version of a table that was given, and is kept, leaves the engine with the history: a place was taken
abbrev pub PlacesStay : (D P : Type 0) → Meaning D → Type 0
PlacesStay D P m = (places : Places P) (old read : Core D) (t : TxNo) (table : Table) (write : Write)
    (before : Before) (version : Version) (store : Pool D FireLinks) (at : RecId) (o : Opening) (h : Entries)
    → IsCore m old → given_to old.works t.0 table.name ≡ Some table → HasNoted old.works t.0 table
    → FitsShape table.shape write
    → IsReady m old read t table write before version
    → before.way ≡ ways.Make → TakesPlace m read.store store table.pointer.0 at → StandsFor m old o h
    → StaysOver m old store o h t.0

-- or a dead transaction's version was taken out
abbrev pub DeadsStay : (D P : Type 0) → Meaning D → Type 0
DeadsStay D P m = (places : Places P) (old read : Core D) (t : TxNo) (table : Table) (write : Write)
    (before : Before) (version : Version) (store : Pool D FireLinks) (rec : RecId) (o : Opening) (h : Entries)
    → IsCore m old → given_to old.works t.0 table.name ≡ Some table → HasNoted old.works t.0 table
    → FitsShape table.shape write
    → IsReady m old read t table write before version
    → before.way ≡ ways.PushOverDead rec → TakesNewestOut m read.store store rec → StandsFor m old o h
    → StaysOver m old store o h t.0

-- a row of a table that was given, and is kept, was written on this way: the engine goes on with the event
abbrev pub RowsGoOn : (D P : Type 0) → Meaning D → (RecId → Way) → Type 0
RowsGoOn D P m way = (places : Places P) (old new : Core D) (t : TxNo) (table : Table) (write : Write) (rec : RecId)
    (o : Opening) (h : Entries) → IsCore m old → given_to old.works t.0 table.name ≡ Some table
    → HasNoted old.works t.0 table → FitsShape table.shape write → (written : Writes m old new t table write) → written.puts.before.way ≡ way rec → StandsFor m old o h
    → GoesOnWith m old new o h (made_by t table write) t.0

-- it was pushed over a committed version, or put in place of the transaction's own
abbrev pub PushedRowsGoOn : (D P : Type 0) → Meaning D → Type 0
PushedRowsGoOn D P m = RowsGoOn D P m ways.Push

abbrev pub ReplacedRowsGoOn : (D P : Type 0) → Meaning D → Type 0
ReplacedRowsGoOn D P m = RowsGoOn D P m ways.Replace

-- or over a dead transaction's, which was taken out first
abbrev pub OverDeadRowsGoOn : (D P : Type 0) → Meaning D → Type 0
OverDeadRowsGoOn D P m = RowsGoOn D P m ways.PushOverDead

-- or it is the first one of a record
abbrev pub NewRowsGoOn : (D P : Type 0) → Meaning D → Type 0
NewRowsGoOn D P m = RowsGoOn D P m (λ rec. ways.Make)
