-- A transaction takes back tables that it has made: its pages without the rows that say them, from those before, in
-- which it counts as in limbo, and those after, in which it counts as dead.
use Rattle.std.specs.Prelude.{◌≡◌, ◌≢◌, ◌⊎◌, ◌&&◌, ℕ, Bool, true, false, List, [], ◌∷◌, if◌then◌else◌, Option, None, Some}
use Rattle.mg_base.specs.declared.numbers.RecId.{RecId}
use Rattle.mg_base.specs.declared.transaction.TxState.{TxState}
use Rattle.mg_value.specs.declared.value.Value.{Value}
use Rattle.mg_model.specs.declared.table.Table.{Table}
use Rattle.mg_model.specs.declared.opening.Opening.{Opening}
use Rattle.mg_model.specs.Catalog.{catalog_name, table_key}
use Rattle.mg_model.specs.Changes.{row_at, same_name}
use Rattle.mg_model.specs.History.{Entries}
use Rattle.mg_model.specs.Machine.{database, own}
use Rattle.mg_image.specs.declared.entry.Entry.{Entry}
use Rattle.mg_image.specs.Catalog.{committed_with}
use Rattle.mg_image.specs.Form.{Form, Pages, Row, Rows}
use Rattle.mg_image.specs.Held.{AreRows}
use Rattle.mg_image.specs.Histories.{newest_at}
use Rattle.mg_image.specs.Indexes.{IsFoundIn}
use Rattle.mg_image.specs.Inventory.{is_used}
use Rattle.mg_image.specs.Reached.{linked_pages, tips_of}
use Rattle.mg_image.specs.RecordRules.{Facts, TakesKey}
use Rattle.mg_image.specs.Records.{Change, Reading, record_key, writer}
use Rattle.mg_image.specs.Sound.{HasTablePages, IsSoundBy, facts_by}
use Rattle.mg_image.specs.Tables.{EachStand, IsOnce, Layout, Stand, has, stands_of, table_at}
use Rattle.mg_image_overlay_laws.specs.transactions.Begins.{Raises}
use Rattle.mg_image_overlay_laws.specs.pages.DataSound.{KeepsTrees}
use Rattle.mg_image_overlay_laws.specs.kept.KeptImages.{IsKept}
use Rattle.mg_engine_step_laws.specs.tables_back.TakenRows.{AreWhole}

-- ---- what is left

-- stands without those of the tables whose own key is gone
abbrev pub stands_left : (Value → Bool) → List Stand → List Stand
stands_left gone [] = []
stands_left gone (s ∷ ss) = if gone (table_key s.table.name) then stands_left gone ss else s ∷ stands_left gone ss

-- the tables of one layout that are left, with the catalog of another
abbrev pub layout_left : (Value → Bool) → Layout → Layout → Layout
layout_left gone a c =
    record { catalog = c.catalog; tables = stands_left gone a.tables; sequences = c.sequences }

-- what is read on the page of a table, and of none
abbrev pub read_of : Option Table → List Entry → List Entry
read_of None es = []
read_of (Some table) es = es

-- the catalog's records by one reading, those of the tables that are left by another
abbrev pub reading_left : (Value → Bool) → Layout → Layout → Reading → Reading → Reading
reading_left gone a c r rc p = if has c.catalog.data_pages p.page.0 then rc p
    else read_of (table_at (stands_left gone a.tables) p.page.0) (r p)

-- ---- the catalog's records

-- A record has gone: it had one version, the maker's own.
pub record HasGone (gone : Value → Bool) (catalog : Table) (t : ℕ) (was now : List Entry) : Type 0 where
  pub version : Entry
  pub alone : was ≡ version ∷ []
  pub its : writer version ≡ t
  pub none : now ≡ []
  pub keyed : gone (record_key catalog was) ≡ true

-- A record stays: if it takes a key, that is not gone.
pub record IsLeft (gone : Value → Bool) (f : Facts) (catalog : Table) (was now : List Entry) : Type 0 where
  pub same : now ≡ was
  pub keyed : TakesKey f was → gone (record_key catalog was) ≡ false

-- ---- what is taken back

-- Pages change on data pages of the catalog alone, and it stands as it did.
pub record LeavesTables (size : ℕ) (old new : Pages) (a c : Layout) : Type 0 where
  pub header : new 0 ≡ old 0
  pub used : (m : ℕ) → is_used size old m ≡ true → is_used size new m ≡ true
  pub tips : tips_of size new ≡ tips_of size old
  pub catalog : c.catalog ≡ a.catalog
  pub sequences : c.sequences ≡ a.sequences
  pub left : (m : ℕ) → has a.catalog.data_pages m ≡ false → new m ≡ old m
  pub trees : KeepsTrees old new size a

-- The catalog's records are as they were but for those that have gone, and these are of whole tables, whichever
-- transactions in limbo come to be committed.
pub record TakesRows (t : ℕ) (a : Layout) (f : Facts) (r rc : Reading) (gone : Value → Bool) : Type 0 where
  pub each : (p : RecId) → has a.catalog.data_pages p.page.0 ≡ true
      → HasGone gone a.catalog.table t (r p) (rc p) ⊎ IsLeft gone f a.catalog.table (r p) (rc p)
  pub whole : (chosen : ℕ → Bool) (rows : Rows) → AreRows f (committed_with f chosen) r a.catalog.table rows
      → AreWhole gone rows

-- Before, the pages `old` are sound with the maker in limbo, with the layout `a` and the reading `r`; after, the pages
-- `new` are so with it dead, with `c` and `rc`. So the pages after are sound with the maker in limbo, and have all that
-- was read before, but for the tables that have gone.
abbrev pub LeftAreSound : Form → Type 0
LeftAreSound form = (size : ℕ) (state now : ℕ → TxState) (t : ℕ) (old new : Pages) (a c : Layout) (r rc : Reading)
    (gone : Value → Bool) → Raises state now t → IsSoundBy form size now old a r → IsSoundBy form size state new c rc
    → LeavesTables size old new a c → TakesRows t a (facts_by now old a) r rc gone
    → IsSoundBy form size now new (layout_left gone a c) (reading_left gone a c r rc)

-- ---- what comes of it

-- The tables that are left stand as they did.
pub record TakesBack (form : Form) (size : ℕ) (now : ℕ → TxState) (t : ℕ) (old new : Pages) (a c : Layout)
    (r rc : Reading) (gone : Value → Bool) : Type 0 where
  pub header : new 0 ≡ old 0
  -- the pages of tables
  pub tables_pages : EachStand (HasTablePages form.in_primary size new) (stands_left gone a.tables)
  pub once : IsOnce (linked_pages size new (layout_left gone a c))
  pub stands : (n : ℕ) (table : Table) → table_at (stands_left gone a.tables) n ≡ Some table
      → table_at a.tables n ≡ Some table
  pub left : (n : ℕ) (table : Table) → table_at (stands_left gone a.tables) n ≡ Some table → new n ≡ old n
  pub apart : (n : ℕ) (table : Table) → table_at (stands_left gone a.tables) n ≡ Some table
      → has c.catalog.data_pages n ≡ false
  -- the catalog's records
  pub same : (n : ℕ) → has c.catalog.data_pages n ≡ has a.catalog.data_pages n
  pub each : (p : RecId) → has c.catalog.data_pages p.page.0 ≡ true
      → HasGone gone a.catalog.table t (r p) (rc p)
      ⊎ IsLeft gone (facts_by now old a) a.catalog.table (r p) (rc p)
  pub whole : (chosen : ℕ → Bool) (rows : Rows)
      → AreRows (facts_by now old a) (committed_with (facts_by now old a) chosen) r a.catalog.table rows
      → AreWhole gone rows
  -- rows are found in indexes
  pub found : (table : Table) (p : RecId) (row : Row) → table_at (stands_of a) p.page.0 ≡ Some table
      → IsFoundIn old table.indexes p row → IsFoundIn new table.indexes p row

-- ---- histories

-- a change at a key of a table, where these keys of the catalog are gone
abbrev pub change_left : (Value → Bool) → List ℕ → Value → Option Change → Option Change
change_left gone name key old = if same_name catalog_name name && gone key then None else old

-- One history has what another one has, but for the rows of a transaction under keys of the catalog that are gone; and it
-- has changed none of their tables.
pub record IsWithout (o : Opening) (h later : Entries) (t : ℕ) (gone : Value → Bool) : Type 0 where
  pub rows : (name : List ℕ) (key : Value) → row_at (database o later) name key ≡ row_at (database o h) name key
  pub others : (u : ℕ) (name : List ℕ) (key : Value) → u ≢ t
      → newest_at (own o later u) name key ≡ newest_at (own o h u) name key
  pub its : (name : List ℕ) (key : Value)
      → newest_at (own o later t) name key ≡ change_left gone name key (newest_at (own o h t) name key)
  pub none : (name : List ℕ) (key : Value) → name ≢ catalog_name → gone (table_key name) ≡ true
      → newest_at (own o h t) name key ≡ None

-- so they are what they have to be for the history without those rows
abbrev pub LeftAreKept : Form → Type 0
LeftAreKept form = (size : ℕ) (o : Opening) (h later : Entries) (state now : ℕ → TxState) (t : ℕ) (old new : Pages)
    (c : Layout) (rc : Reading) (gone : Value → Bool) → Raises state now t → (kept : IsKept form size o h now old old)
    → IsSoundBy form size state new c rc
    → LeavesTables size old new kept.layout c
    → TakesRows t kept.layout (facts_by now old kept.layout) kept.reading rc gone → IsWithout o h later t gone
    → IsKept form size o later now new new
