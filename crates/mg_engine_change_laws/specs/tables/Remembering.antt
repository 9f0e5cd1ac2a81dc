-- What rows of the catalog that a transaction makes, one after another, make of the memory of an engine.
use Rattle.std.specs.Prelude.{◌≡◌, ◌≢◌, ℕ, true, List, [], ◌∷◌, map, None}
use Rattle.mg_base.specs.declared.numbers.TxNo.{TxNo}
use Rattle.mg_value.specs.declared.value.Value.{Value}
use Rattle.mg_model.specs.declared.opening.Opening.{Opening}
use Rattle.mg_model.specs.Catalog.{catalog_name}
use Rattle.mg_model.specs.Changes.{has_change}
use Rattle.mg_model.specs.History.{Entries}
use Rattle.mg_model.specs.Legal.{IsLegal, MayBegin}
use Rattle.mg_model.specs.Machine.{own}
use Rattle.mg_records.specs.Reading.{shape_seen}
use Rattle.mg_undo.specs.Undo.{State as Undo, after_keep}
use Rattle.mg_undo.specs.declared.changes.Was.TheVariants.{Untouched}
use Rattle.mg_waits.specs.Waits.{NowWaits}
use Rattle.mg_engine_step_laws.specs.standing.Following.{KeepsOne}
use Rattle.mg_engine_step_laws.specs.standing.Standing.{IsSeenAs, Remembers, Standing}
use Rattle.mg_engine_change_laws.specs.tables.Rows.{AreLawful, AreUnwritten, MadeRow, MayMake, key_at, row_told, with_rows}

-- what a transaction has to take back, where for each of these rows of a table it is kept that it had not changed
-- the key before
abbrev pub rows_kept : ℕ → List MadeRow → Undo → Undo
rows_kept pointer [] undo = undo
rows_kept pointer (row ∷ rows) undo = rows_kept pointer rows (after_keep undo pointer (key_at row) Untouched)

-- Rows of the catalog are noted: the transaction's wait is over, it keeps for each that it had not changed its key,
-- knows the catalog by its first page, and sees the tables of the later history; all else stays.
pub record NotesRows (o : Opening) (h : Entries) (t : TxNo) (pointer : ℕ) (rows : List MadeRow) (s new : Standing)
    : Type 0 where
  pub limit : new.limit ≡ s.limit
  pub next : new.next ≡ s.next
  pub state : (u : ℕ) → new.state u ≡ s.state u
  pub live : new.live ≡ s.live
  pub waits : NowWaits s.waits new.waits t.0 None
  pub others : (u : ℕ) → u ≢ t.0 → KeepsOne s new u
  pub mode : new.mode t.0 ≡ s.mode t.0
  pub session : (u : ℕ) → new.session u ≡ s.session u
  pub undo : new.undo t.0 ≡ rows_kept pointer rows (s.undo t.0)
  pub number : new.number t.0 catalog_name ≡ pointer
  pub numbers : (name : List ℕ) (key : Value) → has_change (own o h t.0) name key ≡ true
      → s.number t.0 name ≡ new.number t.0 name
  pub tables : (name : List ℕ)
      → IsSeenAs name (shape_seen o (with_rows t (map row_told rows) h) t.0 name) (new.table t.0 name)

-- so memory is what the history with their entries says
abbrev pub RowsAreRemembered : Type 0
RowsAreRemembered = (o : Opening) (h : Entries) (t : TxNo) (pointer : ℕ) (row : MadeRow) (rows : List MadeRow)
    (s new : Standing) → MayBegin o → IsLegal o h → MayMake o h t → Remembers o h s
    → AreUnwritten o t (row ∷ rows) h → AreLawful o t (map row_told (row ∷ rows)) h
    → NotesRows o h t pointer (row ∷ rows) s new
    → Remembers o (with_rows t (map row_told (row ∷ rows)) h) new
