-- Rows are taken out of the catalog, each in a batch of its own, and the tables that they say go.
use Rattle.std.specs.Prelude.{◌≡◌, ◌⊎◌, ◌||◌, ℕ, Bool, true, false, List, [], ◌∷◌, None, Some}
use Rattle.mg_base.specs.Disk.{Meaning}
use Rattle.mg_base.specs.Image.{Image}
use Rattle.mg_base.specs.declared.numbers.RecId.{RecId}
use Rattle.mg_base.specs.declared.transaction.TxState.{TxState}
use Rattle.mg_base.specs.declared.transaction.TxState.TheVariants.{Active, Dead}
use Rattle.mg_value.specs.declared.value.Value.{Value}
use Rattle.mg_chain.specs.Writing.{TakesOut}
use Rattle.mg_model.specs.declared.opening.Opening.{Opening}
use Rattle.mg_model.specs.declared.table.Table.{Table}
use Rattle.mg_model.specs.Catalog.{catalog_name}
use Rattle.mg_model.specs.Changes.{same_key}
use Rattle.mg_model.specs.History.{Entries}
use Rattle.mg_model.specs.Machine.{own}
use Rattle.mg_image.specs.Form.{Form, Pages}
use Rattle.mg_image.specs.declared.entry.Entry.{Entry}
use Rattle.mg_image.specs.Records.{Reading, record_key, writer}
use Rattle.mg_image.specs.Sound.{IsSoundBy, facts_by}
use Rattle.mg_image.specs.Tables.{Layout, has, stands_of, table_at}
use Rattle.mg_image_overlay_laws.specs.kept.KeptImages.{IsKept}
use Rattle.mg_overlay_laws.specs.Overlays.{OthersStay, left_state, without}
use Rattle.mg_pool.specs.Batch.{Changed}
use Rattle.mg_pool.specs.Pool.{shown}
use Rattle.mg_pool.specs.declared.pool.Pool.{Pool}
use Rattle.mg_pool_overlay_laws.specs.Needs.{Asked, Sessions}
use Rattle.mg_tie_laws.specs.Changed.{ChangesFresh, KeptIn, fresh}
use Rattle.mg_engine_step_laws.specs.tables_back.CatalogPages.{ChangesCatalogPages}
use Rattle.mg_engine_step_laws.specs.tables_back.Taken.{LeavesTables, TakesRows}
use Rattle.mg_engine_step_laws.specs.tables_back.Whole.{GoWhole}

-- A row of the catalog is taken out in a batch of its own, under a key: its record had one version, which was a
-- transaction's; whichever choice is made without that, the record is one of the catalog, and has the key.
pub record TakesRowAway (form : Form) {D L : Type 0} (store : Pool D L) (image : Image) (state : ℕ → TxState) (by : ℕ)
    (key : Value) (batch : Changed) : Type 0 where
  pub rec : RecId
  pub table : Table
  pub out : TakesOut store image fresh batch rec
  pub its : out.was.tx.0 ≡ by
  pub first : out.was.back ≡ None
  pub catalog : table.name ≡ catalog_name
  pub placed : (chosen : ℕ → Bool) → chosen by ≡ false → (layout : Layout) (r : Reading)
      → IsSoundBy form store.geometry.size (left_state chosen state) (shown store.dirty image) layout r
      → table_at (stands_of layout) rec.page.0 ≡ Some table
  pub keyed : (chosen : ℕ → Bool) → chosen by ≡ false → (layout : Layout) (r : Reading)
      → IsSoundBy form store.geometry.size (left_state chosen state) (shown store.dirty image) layout r
      → record_key table (r rec) ≡ key

-- So every overlay in which the transaction counts as dead stays what it has to be. `now` is what becomes of transactions
-- once it is.
abbrev pub RowAwayKeeps : Form → (D L : Type 0) → Meaning D → Type 0
RowAwayKeeps form D L m = (before after : Pool D L) (i j : Image) (batch : Changed) (asked : Asked) (session : Sessions)
    (o : Opening) (h : Entries) (by : ℕ) (state now : ℕ → TxState) (key : Value)
    → ChangesFresh m before after i j batch → TakesRowAway form before i state by key batch → state by ≡ Active
    → now by ≡ Dead → OthersStay state now by
    → KeptIn form before.geometry.size o h now asked session before i
    → KeptIn form before.geometry.size o h now asked session after j

-- ---- what is read

-- A record had one version, the transaction's own, and has none.
pub record GoesWhole (by : ℕ) (was now : List Entry) : Type 0 where
  pub version : Entry
  pub alone : was ≡ version ∷ []
  pub its : writer version ≡ by
  pub none : now ≡ []

-- each record reads as it did, or has gone
abbrev pub GoOrStay : ℕ → Reading → Reading → Type 0
GoOrStay by r s = (p : RecId) → (s p ≡ r p) ⊎ GoesWhole by (r p) (s p)

-- ---- rows of the catalog

-- one of these keys is this one
abbrev pub is_among : List Value → Value → Bool
is_among [] key = false
is_among (k ∷ keys) key = same_key k key || is_among keys key

-- ---- what is read, with the writer dead

-- The records of the catalog with these keys have gone, each other record reads as it did.
pub record ReadsWithout (by : ℕ) (keys : List Value) (d : Layout) (r rc : Reading) : Type 0 where
  pub each : (p : RecId) → (rc p ≡ r p)
      ⊎ (GoesWhole by (r p) (rc p) × (is_among keys (record_key d.catalog.table (r p)) ≡ true))
  pub whole : (key : Value) → is_among keys key ≡ true → (p : RecId) × (has d.catalog.data_pages p.page.0 ≡ true)
      × (record_key d.catalog.table (r p) ≡ key) × GoesWhole by (r p) (rc p)

-- Rows of the catalog go from some pages to others, in one batch or in several: whichever choice is made without the writer,
-- the pages keep their layout, change on data pages of the catalog alone, and are read without these rows.
abbrev pub RowsGone : Form → ℕ → Opening → Entries → (ℕ → TxState) → ℕ → List Value → Pages → Pages → Type 0
RowsGone form size o h state by keys old new = (chosen : ℕ → Bool) → chosen by ≡ false
    → (start : IsKept form size o h (left_state chosen state) old old) → (c : Layout) (rc : Reading)
    → IsSoundBy form size (left_state chosen state) new c rc
    → (start.of_pool ≡ c) × ReadsWithout by keys start.of_pool start.in_pool rc
    × ChangesCatalogPages size old new start.of_pool

-- So the pages leave and take what the law of pages without tables wants, where whole tables go.
abbrev pub OutsThere : Form → (D L : Type 0) → Type 0
OutsThere form D L = (store : Pool D L) (image : Image) (o : Opening) (h : Entries) (state : ℕ → TxState) (by : ℕ)
    (keys : List Value) (new : Pages) (asked : Asked) (session : Sessions) → state by ≡ Active
    → RowsGone form store.geometry.size o h state by keys (shown store.dirty image) new
    → GoWhole (own o h by) (is_among keys) → KeptIn form store.geometry.size o h state asked session store image
    → (chosen : ℕ → Bool) → chosen by ≡ true
    → (was : IsKept form store.geometry.size o h (left_state chosen state) (shown store.dirty image)
    (shown store.dirty image)) → (c : Layout) (rc : Reading)
    → IsSoundBy form store.geometry.size (left_state (without by chosen) state) new c rc
    → LeavesTables store.geometry.size (shown store.dirty image) new was.layout c
    × TakesRows by was.layout (facts_by (left_state chosen state) (shown store.dirty image) was.layout) was.reading rc
    (is_among keys)
