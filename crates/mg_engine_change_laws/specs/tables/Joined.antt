-- A table is made by a transaction that may have made others before: its pages with the rows that say the table, from
-- those before, in which it counts as in limbo, and those after, in which it counts as dead.
use Rattle.std.specs.Prelude.{◌≡◌, ◌≢◌, ◌⊎◌, ℕ, true, false, List, [], ◌∷◌, map, Some}
use Rattle.std.specs.Cmp.Lexicographic.{slice_cmp}
use Rattle.std.specs.Ordering.{nat_cmp}
use Rattle.mg_base.specs.declared.numbers.RecId.{RecId}
use Rattle.mg_base.specs.declared.numbers.TxNo.{TxNo}
use Rattle.mg_base.specs.declared.transaction.TxState.{TxState}
use Rattle.mg_catalog.specs.ByKey.{HaveOwnKeys, by_key}
use Rattle.mg_model.specs.declared.opening.Opening.{Opening}
use Rattle.mg_model.specs.declared.table.Table.{Table}
use Rattle.mg_model.specs.History.{Entries}
use Rattle.mg_model.specs.CatalogRules.{AreTables}
use Rattle.mg_model.specs.Changes.{Cells, by_order}
use Rattle.mg_image.specs.Catalog.{FitsPages}
use Rattle.mg_image.specs.Form.{Form, Pages, Row, Rows}
use Rattle.mg_image.specs.Indexes.{IsFoundIn}
use Rattle.mg_image.specs.Reached.{linked_pages}
use Rattle.mg_image.specs.RecordRules.{Facts, TakesKey, table_in}
use Rattle.mg_image.specs.Records.{Reading, key_of, record_key, writer}
use Rattle.mg_image.specs.Sound.{HasTablePages, IsSoundBy, facts_by}
use Rattle.mg_image.specs.Tables.{EachStand, IsOnce, Layout, Stand, has, stands_of, table_at}
use Rattle.mg_image_overlay_laws.specs.transactions.Begins.{Raises}
use Rattle.mg_image_overlay_laws.specs.kept.KeptImages.{IsKept}
use Rattle.mg_engine_change_laws.specs.tables.Rows.{MadeRow, reading_with, row_told, with_rows}

-- ---- the layout

-- stands in the order of their tables' names, with one more
abbrev pub stands_with : Stand → List Stand → List Stand
stands_with s [] = s ∷ []
stands_with s (u ∷ us) = by_order (slice_cmp nat_cmp s.table.name u.table.name) (s ∷ u ∷ us) (s ∷ u ∷ us)
    (u ∷ stands_with s us)

-- the tables of one layout and a new one, with the catalog of another
abbrev pub layout_with : Layout → Layout → Stand → Layout
layout_with a c stand =
    record { catalog = c.catalog; tables = stands_with stand a.tables; sequences = c.sequences }

-- ---- the rows

-- the stored rows, and the same by their keys
abbrev pub rows_stored : List MadeRow → List Cells
rows_stored rows = map (λ row. row.first.row) rows

abbrev pub rows_by : List MadeRow → Rows
rows_by rows = by_key (rows_stored rows)

-- a row is one of these
abbrev pub IsMade : List MadeRow → MadeRow → Type 0
IsMade [] row = ⊥
IsMade (first ∷ rows) row = (first ≡ row) ⊎ IsMade rows row

-- others have other records
abbrev pub HasOwnPlace : MadeRow → List MadeRow → Type 0
HasOwnPlace row [] = Unit {0}
HasOwnPlace row (other ∷ rows) = (other.at ≢ row.at) × HasOwnPlace row rows

abbrev pub HaveOwnPlaces : List MadeRow → Type 0
HaveOwnPlaces [] = Unit {0}
HaveOwnPlaces (row ∷ rows) = HasOwnPlace row rows × HaveOwnPlaces rows

-- A row stands in a record of the catalog that had no version, and no record took its key.
pub record IsJoinedRow (a c : Layout) (f : Facts) (r : Reading) (t : ℕ) (row : MadeRow) : Type 0 where
  pub placed : has c.catalog.data_pages row.at.page.0 ≡ true
  pub empty : r row.at ≡ []
  pub its : writer row.first ≡ t
  pub stays : row.first.version.deleted ≡ false
  pub free : (p : RecId) → table_in f p ≡ Some a.catalog.table
      → record_key a.catalog.table (r p) ≡ key_of a.catalog.table row.first.row → TakesKey f (r p) → ⊥

-- ---- what is joined

-- Before, the pages `old` are sound with the maker in limbo, with the layout `a` and the reading `r`; after, the pages
-- `new` are so with it dead, with `c` and `rc`. The catalog has grown, and has the rows; all other tables that stood
-- are as they were; the new one has its pages, and no data page yet.
pub record Joins (form : Form) (size : ℕ) (now : ℕ → TxState) (t : ℕ) (old new : Pages) (a c : Layout) (r rc : Reading)
    (made : List MadeRow) (stand : Stand) : Type 0 where
  pub header : new 0 ≡ old 0
  -- the pages of tables
  pub tables_pages : EachStand (HasTablePages form.in_primary size new) a.tables
  pub stand_pages : HasTablePages form.in_primary size new stand
  pub empty : stand.data_pages ≡ []
  pub once : IsOnce (linked_pages size new (layout_with a c stand))
  pub left : (n : ℕ) (table : Table) → table_at a.tables n ≡ Some table → new n ≡ old n
  pub apart : (n : ℕ) (table : Table) → table_at a.tables n ≡ Some table → has c.catalog.data_pages n ≡ false
  -- the catalog's records
  pub grown : (n : ℕ) → has a.catalog.data_pages n ≡ true → has c.catalog.data_pages n ≡ true
  pub fresh : (p : RecId) → has c.catalog.data_pages p.page.0 ≡ true
      → (has a.catalog.data_pages p.page.0 ≡ true) ⊎ (r p ≡ [])
  pub read : (p : RecId) → has c.catalog.data_pages p.page.0 ≡ true → rc p ≡ reading_with made r p
  -- the rows
  pub rows : (row : MadeRow) → IsMade made row → IsJoinedRow a c (facts_by now old a) r t row
  pub places : HaveOwnPlaces made
  pub keys : HaveOwnKeys (rows_stored made)
  pub alone : AreTables (rows_by made) (stand.table ∷ [])
  pub fits : FitsPages size stand.table
  -- rows are found in indexes still
  pub found : (p : RecId) (table : Table) (row : Row) → table_at a.tables p.page.0 ≡ Some table
      → IsFoundIn old table.indexes p row → IsFoundIn new table.indexes p row

-- so the pages after are sound with the maker in limbo, and have the rows beside all that was read before
abbrev pub JoinedAreSound : Form → Type 0
JoinedAreSound form = (size : ℕ) (state now : ℕ → TxState) (t : ℕ) (old new : Pages) (a c : Layout) (r rc : Reading)
    (made : List MadeRow) (stand : Stand) → Raises state now t → IsSoundBy form size now old a r
    → IsSoundBy form size state new c rc → Joins form size now t old new a c r rc made stand
    → IsSoundBy form size now new (layout_with a c stand) (reading_with made r)

-- ---- histories

-- so they are what they have to be for the history with an entry for each row
abbrev pub JoinedAreKept : Form → Type 0
JoinedAreKept form = (size : ℕ) (o : Opening) (h : Entries) (state now : ℕ → TxState) (t : TxNo) (old new : Pages)
    (c : Layout) (rc : Reading) (made : List MadeRow) (stand : Stand) → Raises state now t.0
    → (kept : IsKept form size o h now old old) → IsSoundBy form size state new c rc
    → Joins form size now t.0 old new kept.layout c kept.reading rc made stand
    → IsKept form size o (with_rows t (map row_told made) h) now new new
