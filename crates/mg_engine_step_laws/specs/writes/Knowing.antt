-- What an engine knows where it writes a version of a record: the batch, the entry, the table and the row.
use Rattle.mg_base.specs.Disk.{Meaning}
use Rattle.mg_base.specs.Image.{Image}
use Rattle.mg_base.specs.declared.numbers.RecId.{RecId}
use Rattle.mg_base.specs.declared.transaction.TxState.{TxState}
use Rattle.mg_base.specs.declared.transaction.TxState.TheVariants.{Active}
use Rattle.mg_engine_step_laws.specs.writes.Writes.{IsSilentAt}
use Rattle.mg_image_overlay_laws.specs.tables.Growing.{IsTableOf}
use Rattle.mg_image.specs.Catalog.{HasMade, IsNamed}
use Rattle.mg_image.specs.Form.{Coding, Form, Pages, Row}
use Rattle.mg_image.specs.Held.{told_row}
use Rattle.mg_image.specs.Indexes.{IsFoundIn}
use Rattle.mg_image.specs.RecordRules.{Facts, IsKeyAlone, TakesKey, columns_for, table_in}
use Rattle.mg_image.specs.Records.{Reading, key_of, record_key}
use Rattle.mg_image.specs.Sound.{facts_by}
use Rattle.mg_image.specs.Tables.{Layout}
use Rattle.mg_lasting_laws.specs.Crashes.{may_last}
use Rattle.mg_model.specs.Changes.{Cells}
use Rattle.mg_model.specs.History.{Entries, Entry as Event}
use Rattle.mg_model.specs.Legal.{IsLawful, is_durable}
use Rattle.mg_model.specs.Openings.{everyone}
use Rattle.mg_model.specs.declared.opening.Opening.{Opening}
use Rattle.mg_model.specs.declared.table.Table.{Table}
use Rattle.mg_overlay_laws.specs.Overlays.{left_state}
use Rattle.mg_image_overlay_laws.specs.names.Whose.{IsTableFor}
use Rattle.mg_pool.specs.Batch.{Changed}
use Rattle.mg_pool.specs.Pool.{IsPool, LeavesOverlays}
use Rattle.mg_pool.specs.declared.pool.Pool.{Pool}
use Rattle.mg_pool_overlay_laws.specs.Needs.{Asked}
use Rattle.mg_rowcode.specs.Storable.{AreStorable}
use Rattle.mg_tie_laws.specs.Changed.{ChangesFresh}
use Rattle.mg_engine_step_laws.specs.standing.Following.{FollowsEntry}
use Rattle.mg_engine_step_laws.specs.standing.Standing.{ShowsHistory, Standing}
use Rattle.mg_engine_step_laws.specs.standing.Writing.{WritesKey}
use Rattle.mg_value.specs.declared.value.Value.{Value}
use Rattle.mg_version.specs.declared.cell.Version.{Version}
use Rattle.std.proofs.Common.{List, None, Option, Some, false, if◌then◌else◌, true, ℕ, ◌≡◌, ◌≢◌, ◌⊎◌}

-- ---- the batch

-- A call filled a batch of its own, and the cache has changed it.
pub record WasChanged {D L : Type 0} (m : Meaning D) (before after : Pool D L) (i j : Image)
    (batch : Changed) : Type 0 where
  pub pool : IsPool m before
  pub changes : ChangesFresh m before after i j batch
  pub crash : LeavesOverlays m changes.ready after
  pub tells : m.tells after.disk ≡ true

-- ---- the entry

-- An active transaction, which has not asked for its commit, writes at a key of a table, and memory follows
-- the entry: it has noted the table's first page, and all else that it knows of tables stays.
pub record EntersWrite (o : Opening) (h : Entries) (e : Event) (s new : Standing) (asked : Asked) (t : ℕ)
    (name : List ℕ) (key : Value) (row : Option Cells) (table : Table) : Type 0 where
  pub lawful : IsLawful o h e
  pub passing : is_durable e ≡ false
  pub no_failure : may_last e ≡ false
  pub writes : WritesKey o h e t name key row
  pub active : s.state t ≡ Active
  pub not_asked : asked t ≡ false
  pub follows : FollowsEntry o h e s new
  pub named : table.name ≡ name
  pub number : new.number t name ≡ table.pointer.0
  pub other_numbers : (other : List ℕ) → other ≢ name → new.number t other ≡ s.number t other
  pub seen : (other : List ℕ) → new.table t other ≡ s.table t other

-- ---- the table

-- whose rows a table may have by the catalog: a committed row names it, or the transaction has made it
abbrev pub HasRowsOf : Facts → Reading → Table → ℕ → List ℕ → Type 0
HasRowsOf f r catalog t name = IsNamed f r catalog name ⊎ HasMade f r catalog t name

-- A table stands on the pages with its indexes, it is not the catalog, and a transaction may write into it:
-- wherever no layout has the table, it is the transaction's own.
pub record MayWriteInto (form : Form) (size : ℕ) (state : ℕ → TxState) (pages : Pages) (layout : Layout)
    (r : Reading) (t : ℕ) (table : Table) : Type 0 where
  pub stands : IsTableOf layout table
  pub whose : IsTableFor form size t state pages table
  pub no_catalog : table ≢ layout.catalog.table
  pub rows : HasRowsOf (facts_by (left_state everyone state) pages layout) r layout.catalog.table t table.name

-- ---- the row

-- A transaction's version codes a row of a table, with this key; as a history has it, it gives this row, or
-- none where it is a deletion.
pub record CodesRow (coding : Coding) (table : Table) (v : Version) (stored : Row) (t : ℕ) (key : Value)
    (row : Option Cells) : Type 0 where
  pub its : v.tx.0 ≡ t
  pub format : coding.format table.shape.columns v.format
  pub spelled : coding.row_spelled (columns_for table v.deleted) v.format v.body stored
  pub storable : AreStorable stored
  pub erased : v.deleted ≡ true → IsKeyAlone table stored
  pub keyed : key_of table stored ≡ key
  pub given : (if v.deleted then None else Some (told_row table stored)) ≡ row

-- the row's entries stand in the table's indexes, before the version does
abbrev pub HasEntries : Pages → Table → RecId → Version → Row → Type 0
HasEntries pages table rec v stored = v.deleted ≡ false → IsFoundIn pages table.indexes rec stored

-- ---- the key

-- whose record a key is: this one speaks for it, or no version of the key counts
abbrev pub IsFreeFor : (form : Form) (size : ℕ) (o : Opening) (h : Entries) (s : Standing) (pages : Pages)
    → ShowsHistory form size o h s pages → List ℕ → Value → RecId → Type 0
IsFreeFor form size o h s pages shows name key rec = (shows.versions.speaker name key ≡ Some rec)
    ⊎ IsSilentAt form size o h s pages shows name key

-- no other record of a table takes a key
abbrev pub NoneTakes : Facts → Reading → Table → Value → RecId → Type 0
NoneTakes f r table key rec = (q : RecId) → q ≢ rec → table_in f q ≡ Some table
    → record_key table (r q) ≡ key → TakesKey f (r q) → ⊥
