-- The rows of tables that a transaction has made go, each in a batch of its own, once the changes of other tables are taken
-- back.
use Rattle.std.specs.Prelude.{◌≡◌, ◌∷◌, ◌++◌, [], ℕ, Bool, true, false, List, None, Some, is_some}
use Rattle.mg_base.specs.Disk.{Meaning}
use Rattle.mg_base.specs.Image.{Image}
use Rattle.mg_base.specs.declared.transaction.TxState.{TxState}
use Rattle.mg_value.specs.declared.value.Value.{Value}
use Rattle.mg_engine_step_laws.specs.standing.Following.{FollowsEntry}
use Rattle.mg_engine_step_laws.specs.commits.ListShows.{TipsStay}
use Rattle.mg_engine_step_laws.specs.standing.Standing.{Remembers, ShowsHistory, Standing}
use Rattle.mg_engine_step_laws.specs.backs.Again.{AreTaken, again}
use Rattle.mg_engine_step_laws.specs.writes.Knowing.{WasChanged}
use Rattle.mg_engine_step_laws.specs.backs.Midway.{GoesBack, IsMidway, LastsDead}
use Rattle.mg_engine_step_laws.specs.backs.Shown.{ShowsMidway}
use Rattle.mg_grown_catalog_laws.specs.Grown.{CatalogGrows}
use Rattle.mg_image.specs.Form.{Pages, packed_form}
use Rattle.mg_image.specs.Histories.{newest_at}
use Rattle.mg_image.specs.Catalog.{catalog_table}
use Rattle.mg_image.specs.Inventory.{header_of, next_of}
use Rattle.mg_image.specs.Records.{Reading}
use Rattle.mg_image.specs.Sound.{IsSoundBy}
use Rattle.mg_image.specs.Tables.{Layout}
use Rattle.mg_image.specs.Records as records
use Rattle.mg_model.specs.Catalog.{catalog_name}
use Rattle.mg_model.specs.Changes.{has_change}
use Rattle.mg_model.specs.History.{Entries, Entry}
use Rattle.mg_model.specs.Legal.{IsLegal, MayBegin}
use Rattle.mg_model.specs.Machine.{own}
use Rattle.mg_model.specs.declared.change.Change.{Change}
use Rattle.mg_model.specs.declared.change.Point.{Point}
use Rattle.mg_model.specs.declared.opening.Opening.{Opening}
use Rattle.mg_model.specs.declared.table.Table.{Table}
use Rattle.mg_overlay_laws.specs.Overlays.{left_state}
use Rattle.mg_pool.specs.Batch.{Changed}
use Rattle.mg_pool.specs.Pool.{IsPool, shown}
use Rattle.mg_pool.specs.declared.pool.Pool.{Pool}
use Rattle.mg_pool_overlay_laws.specs.Needs.{Asked, Sessions}
use Rattle.mg_tie_laws.specs.Changed.{fresh}
use Rattle.mg_image_overlay_laws.specs.tables.Growing.{IsTableOf}
use Rattle.mg_table_unmaking.specs.Rows.{TakesRow}
use Rattle.mg_engine_step_laws.specs.tables_back.LeftShown.{TakesTables}
use Rattle.mg_engine_step_laws.specs.tables_back.Outs.{RowsGone, is_among}
use Rattle.mg_engine_step_laws.specs.tables_back.Whole.{GoWhole}

-- What a transaction has left to take back are rows of the catalog under these keys, of whole tables; it had changed each
-- of them, and has no change there once they are taken back.
pub record AreRowsLeft (o : Opening) (h : Entries) (e : Entry) (t : ℕ) (left : List Change) (keys : List Value)
    : Type 0 where
  pub rows : (name : List ℕ) (key : Value) (c : records.Change) → newest_at left name key ≡ Some c
      → name ≡ catalog_name
  pub keys_are : (key : Value) → is_among keys key ≡ is_some (newest_at left catalog_name key)
  pub made : (key : Value) → is_among keys key ≡ true → has_change (own o h t) catalog_name key ≡ true
  pub none : (key : Value) → is_among keys key ≡ true → newest_at (own o (e ∷ h) t) catalog_name key ≡ None
  pub whole : GoWhole (left ++ own o (e ∷ h) t) (is_among keys)

-- A table stood under a layout and a reading, under which the pages are sound.
pub record StoodUnder (size : ℕ) (state : ℕ → TxState) (pages : Pages) (its : Table) : Type 0 where
  pub layout : Layout
  pub reading : Reading
  pub sound : IsSoundBy packed_form size state pages layout reading
  pub of : IsTableOf layout its

-- Whichever choice is made, each table that stands on later pages stood before.
abbrev pub StoodBefore : ℕ → (ℕ → TxState) → Pages → Pages → Type 0
StoodBefore size state pages later = (chosen : ℕ → Bool) (layout : Layout) (q : Reading)
    → IsSoundBy packed_form size (left_state chosen state) later layout q → (its : Table) → IsTableOf layout its
    → StoodUnder size (left_state chosen state) pages its

-- the same of the choices that are made without a transaction
abbrev pub StoodBeside : ℕ → (ℕ → TxState) → ℕ → Pages → Pages → Type 0
StoodBeside size state t pages later = (chosen : ℕ → Bool) → chosen t ≡ false → (layout : Layout) (q : Reading)
    → IsSoundBy packed_form size (left_state chosen state) later layout q → (its : Table) → IsTableOf layout its
    → StoodUnder size (left_state chosen state) pages its

-- What the batches have taken: the rows and their tables, and no page of transactions has changed. Each table that stands
-- then stood before.
pub record TakesOnPages (size : ℕ) (o : Opening) (h : Entries) (e : Entry) (t : ℕ) (left : List Change) (s : Standing)
    (a : Layout) (r : Reading) (pages later : Pages) (gone : Value → Bool) : Type 0 where
  pub tables : TakesTables packed_form size o h e t left s a r pages later gone
  pub stay : TipsStay size pages later
  pub next : next_of later ≡ next_of pages
  pub before : StoodBefore size s.state pages later

-- ---- the batches

-- The row of a key is taken out of the catalog in a batch, and it was changed: the cache then, over a disk that tells its
-- image.
pub record TakesTheRow {D L : Type 0} (m : Meaning D) (s : Standing) (t : ℕ) (key : Value) (before after : Pool D L)
    (i j : Image) : Type 0 where
  pub table : Table
  pub catalog : catalog_table (header_of (shown before.dirty i)).catalog.0 ≡ table
  pub batch : Changed
  pub takes : TakesRow before i s.state s.live t table key fresh batch
  pub was : WasChanged m before after i j batch
  pub pool : IsPool m after
  pub held : m.held after.disk ≡ Some j
  pub size_is : after.geometry.size ≡ before.geometry.size

-- one row after another
pub data TakesEachRow {D L : Type 0} (m : Meaning D) (s : Standing) (t : ℕ)
    : List Value → Pool D L → Pool D L → Image → Image → Type 0 where
  no_row : (pool : Pool D L) (i : Image) → TakesEachRow m s t [] pool pool i i
  one_row : (key : Value) (keys : List Value) (before mid after : Pool D L) (i k j : Image)
      → TakesTheRow m s t key before mid i k → TakesEachRow m s t keys mid after k j
      → TakesEachRow m s t (key ∷ keys) before after i j

-- ---- the laws

abbrev pub TablesAreTaken : (D L : Type 0) → Meaning D → Type 0
TablesAreTaken D L m = (o : Opening) (h : Entries) (e : Entry) (point : Point) (s : Standing)
    (start before after : Pool D L) (i j : Image) (asked : Asked) (session : Sessions) (t : ℕ)
    (whole left : List Change) (keys : List Value) (begun : Pages)
    (first : ShowsHistory packed_form before.geometry.size o h s begun) → MayBegin o → IsLegal o (e ∷ h)
    → CatalogGrows o h → Remembers o h s → GoesBack o h e point s asked t → AreTaken o h e t whole
    → AreRowsLeft o h e t left keys
    → IsMidway m packed_form before.geometry.size o h e t left s start before i asked session
    → (shows : ShowsMidway packed_form before.geometry.size o h e t whole left s begun first (shown before.dirty i))
    → TakesEachRow m s t keys before after i j
    → TakesOnPages before.geometry.size o h e t left s shows.layout shows.reading (shown before.dirty i)
    (shown after.dirty j) (is_among keys)

-- So nothing is left to take back in any overlay, and the pages show the history that has the entry.
abbrev pub TablesGoBack : (D L : Type 0) → Meaning D → Type 0
TablesGoBack D L m = (o : Opening) (h : Entries) (e : Entry) (point : Point) (s : Standing)
    (start before after : Pool D L) (i j : Image) (asked : Asked) (session : Sessions) (t : ℕ)
    (whole left : List Change) (keys : List Value) (begun : Pages)
    (first : ShowsHistory packed_form before.geometry.size o h s begun) → MayBegin o → IsLegal o (e ∷ h)
    → CatalogGrows o h → Remembers o h s → GoesBack o h e point s asked t → AreTaken o h e t whole
    → AreRowsLeft o h e t left keys
    → IsMidway m packed_form before.geometry.size o h e t left s start before i asked session
    → ShowsMidway packed_form before.geometry.size o h e t whole left s begun first (shown before.dirty i)
    → TakesEachRow m s t keys before after i j
    → IsMidway m packed_form before.geometry.size o h e t [] s start after j asked session
    × ((new : Standing) → FollowsEntry o h e s new → new.number t ≡ s.number t
    → ((name : List ℕ) (table : Table) → new.table t name ≡ Some table → s.table t name ≡ Some table)
    → ShowsHistory packed_form before.geometry.size o (e ∷ h) new (shown after.dirty j))

-- One row more: whatever comes of the next ones, the cache lasts as in the middle of a way back. By a history in which the
-- transaction gives some changes again the row has gone from the pages, where that counts as dead; the header is as it was,
-- and each table that stands then stood before.
abbrev pub RowsGoOn : (D L : Type 0) → Meaning D → Type 0
RowsGoOn D L m = (o : Opening) (h : Entries) (e : Entry) (point : Point) (s : Standing)
    (start before after : Pool D L) (i j : Image) (asked : Asked) (session : Sessions) (t : ℕ)
    (left : List Change) (key : Value) → MayBegin o → IsLegal o h → Remembers o h s → GoesBack o h e point s asked t
    → LastsDead m packed_form before.geometry.size o h t start before asked session
    → TakesTheRow m s t key before after i j
    → LastsDead m packed_form before.geometry.size o h t start after asked session
    × RowsGone packed_form before.geometry.size o (again t left (e ∷ h)) s.state t (key ∷ [])
    (shown before.dirty i) (shown after.dirty j)
    × (shown after.dirty j 0 ≡ shown before.dirty i 0)
    × StoodBeside before.geometry.size s.state t (shown before.dirty i) (shown after.dirty j)
