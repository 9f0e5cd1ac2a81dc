-- When an image is sound. The rules are numbered; what a rule says of the versions of records
-- stands in `AreRecords`.
use Rattle.std.specs.Prelude.{Bool, ◌≡◌, ◌≢◌, ◌⊎◌, ◌<◌, ◌≤◌, ◌/◌, ℕ, true, false, List, ◌∷◌, length, map, drop, Some}
use Rattle.mg_base.specs.Checks.{PassesAll, common_checks}
use Rattle.mg_base.specs.Fields.{byte}
use Rattle.mg_base.specs.Geometry.{is_page_size}
use Rattle.mg_base.specs.Image.{blank}
use Rattle.mg_base.specs.declared.geometry.TheConstants.{GREATEST_LIMIT}
use Rattle.mg_base.specs.declared.numbers.RecId.{RecId}
use Rattle.mg_base.specs.declared.transaction.TxState.{TxState}
use Rattle.mg_base.specs.declared.transaction.TxState.TheVariants.{Active, Limbo, Dead, Committed}
use Rattle.mg_header.specs.HeaderPage.{database_checks, page_checks}
use Rattle.mg_pip.specs.PipPage.{pip_checks}
use Rattle.mg_pointer.specs.PointerPage.{pointer_checks}
use Rattle.mg_slots.specs.declared.page.TheConstants.{DATA_KIND}
use Rattle.mg_slots.specs.DataPage.{IsDataPage, cell_of}
use Rattle.mg_tip.specs.TipPage.{places, tip_checks}
use Rattle.mg_version.specs.declared.cell.Cell.{Cell}
use Rattle.mg_version.specs.declared.cell.Cell.TheVariants as cells
use Rattle.mg_version.specs.declared.cell.TheConstants.{VERSION}
use Rattle.mg_version.specs.declared.cell.Version.{Version}
use Rattle.mg_version.specs.Cells.{IsSpelling}
use Rattle.mg_image.specs.declared.entry.TheConstants.{PRIMARY_VERSION}
use Rattle.mg_image.specs.declared.entry.Entry.{Entry}
use Rattle.mg_model.specs.declared.table.Table.{Table}
use Rattle.mg_image.specs.Form.{Form, Pages, Row}
use Rattle.mg_image.specs.Catalog.{HasNames, HasOwnTables, catalog_table}
use Rattle.mg_image.specs.Held.{HasLimbo, Shows}
use Rattle.mg_image.specs.Indexes.{AreTrees, EachPage, IsFoundIn}
use Rattle.mg_image.specs.Inventory.{bits_state, header_of, inventory_page, is_used, last_sequence, next_of, oldest_active_of, oldest_of, state_at, tip_page}
use Rattle.mg_image.specs.Reached.{IsAsWanted, linked_pages}
use Rattle.mg_image.specs.RecordRules.{AreRecords, Facts, committed_in}
use Rattle.mg_image.specs.Records.{Reading, cells_of}
use Rattle.mg_image.specs.Tables.{EachFrom, EachStand, IsOnce, Layout, PointerChain, Stand, entries_in, stands_of, table_at}

-- what the records of an image need to know of its other pages, where this has become of the
-- transactions
abbrev pub facts_by : (ℕ → TxState) → Pages → Layout → Facts
facts_by state pages layout = record {
  state = state;
  next = next_of pages;
  oldest = oldest_of pages;
  table_of = table_at (stands_of layout);
}

-- the same, where that has become of them which their bits say
abbrev pub facts_of : ℕ → Pages → Layout → Facts
facts_of size pages layout = facts_by (state_at size pages) pages layout

-- Every page has the page size, and the header page is that of a database with such pages.
pub record HasHeader (size : ℕ) (pages : Pages) : Type 0 where
  pub lawful_size : is_page_size size ≡ true
  pub whole : (n : ℕ) → length (pages n) ≡ size
  pub database : PassesAll (database_checks (pages 0) size)
  -- the common part, and 1 <= OIT <= OST <= OAT <= Next <= 1,000,000,000
  pub fields : PassesAll (page_checks (pages 0))
  pub used : is_used size pages 0 ≡ true

-- bits of a transaction that was not drawn yet: those of active or dead
abbrev pub IsUndrawn : TxState → Type 0
IsUndrawn Active = Unit {0}
IsUndrawn Dead = Unit {0}
IsUndrawn Limbo = ⊥
IsUndrawn Committed = ⊥

-- there is a transaction inventory page of each sequence up to that of the last transaction drawn
abbrev pub HasTips : ℕ → Pages → Type 0
HasTips size pages = (sequence : ℕ) → sequence ≤ last_sequence size pages
    → IsAsWanted size pages (tip_page size pages sequence)
    (tip_checks (pages (tip_page size pages sequence)) (tip_page size pages sequence) sequence)

-- on the last of them no transaction from Next on has become anything
abbrev pub HasNoneUndrawn : ℕ → Pages → Type 0
HasNoneUndrawn size pages = (t : ℕ) → next_of pages ≤ t
    → t / places size ≡ last_sequence size pages → IsUndrawn (bits_state size pages t)

-- Each drawn transaction has its bits, and no other has become anything.
pub record HasTransactions (size : ℕ) (pages : Pages) : Type 0 where
  pub each : HasTips size pages
  pub undrawn : HasNoneUndrawn size pages

-- no transaction below the oldest active one is in limbo
abbrev pub HasNoOldLimbo : (ℕ → TxState) → Pages → Type 0
HasNoOldLimbo state pages = (t : ℕ) → t < oldest_active_of pages → state t ≢ Limbo

-- the page inventory page of a region is blank, or as wanted
abbrev pub HasRegion : ℕ → Pages → ℕ → ℕ → Type 0
HasRegion size pages n region =
    (pages n ≡ blank size) ⊎ IsAsWanted size pages n (pip_checks (pages n) n region)

-- each page inventory page of the image is
abbrev pub HasInventory : ℕ → Pages → Type 0
HasInventory size pages = (region : ℕ) → inventory_page size region < GREATEST_LIMIT
    → HasRegion size pages (inventory_page size region) region

-- bytes spell a version in its primary slot: but for the first byte they spell another version
abbrev pub IsPrimaryVersion : List ℕ → Type 0
IsPrimaryVersion bytes = (byte bytes 0 ≡ PRIMARY_VERSION)
    × ((v : Version) × IsSpelling (VERSION ∷ drop 1 bytes) (cells.Version v))

-- bytes spell a cell; one in its primary slot may be a version only where that is lawful
abbrev pub IsCellOf : Bool → List ℕ → Type 0
IsCellOf in_primary bytes = ((cell : Cell) × IsSpelling bytes cell)
    ⊎ ((in_primary ≡ true) × IsPrimaryVersion bytes)

-- The data page of an owner at a place of the entries.
pub record IsTableData (in_primary : Bool) (size : ℕ) (pages : Pages) (owner at n : ℕ)
    : Type 0 where
  pub wanted : IsAsWanted size pages n (common_checks (pages n) n DATA_KIND owner at)
  pub lawful : IsDataPage (pages n)
  pub cells : (slot : ℕ) (bytes : List ℕ) → cell_of (pages n) slot ≡ Some bytes
      → IsCellOf in_primary bytes

-- the pointer page of an owner at a place of the chain
abbrev pub IsTablePointer : ℕ → Pages → ℕ → ℕ → ℕ → Type 0
IsTablePointer size pages owner at n =
    IsAsWanted size pages n (pointer_checks (pages n) n owner at)

-- The pages of a table: its chain of pointer pages, their entries, its indexes.
pub record HasTablePages (in_primary : Bool) (size : ℕ) (pages : Pages) (stand : Stand)
    : Type 0 where
  pub first : stand.table.pointer.0 ≢ 0
  pub chain : PointerChain pages stand.table.pointer.0 stand.pointers
  pub entries : stand.data_pages ≡ entries_in pages stand.pointers
  pub pointers : EachFrom (IsTablePointer size pages stand.table.pointer.0) 0 stand.pointers
  pub data_pages : EachFrom (IsTableData in_primary size pages stand.table.pointer.0) 0
      stand.data_pages
  pub trees : AreTrees size pages stand.table.pointer.0 stand.table.indexes stand.trees

-- the shown row of each record, and that of each limbo version, is found in the table's indexes
pub record IsIndexed (f : Facts) (pages : Pages) (r : Reading) : Type 0 where
  pub committed : (p : RecId) (table : Table) (row : Row)
      → Shows f (committed_in f) r p table row → IsFoundIn pages table.indexes p row
  pub limbo : (p : RecId) (table : Table) (e : Entry) → HasLimbo f r p table e
      → e.version.deleted ≡ false → IsFoundIn pages table.indexes p e.row

-- An image with this layout, of which this is read, is sound, where this has become of the
-- transactions. An engine that works on an image counts some of them otherwise than their bits say.
pub record IsSoundBy (form : Form) (size : ℕ) (state : ℕ → TxState) (pages : Pages)
    (layout : Layout) (r : Reading) : Type 0 where
  -- 1. the header's fields are lawful
  pub header : HasHeader size pages
  -- 2. each transaction below Next has its bits, and no other has become anything
  pub transactions : HasTransactions size pages
  -- 3. each reached page is as wanted, the catalog's rows are lawful, and name tables that fit the
  -- pages and stay; that each row fits its table is a rule of records
  pub inventory : HasInventory size pages
  pub catalog : layout.catalog.table ≡ catalog_table (header_of pages).catalog.0
  pub tables : EachStand (HasTablePages form.in_primary size pages) (stands_of layout)
  pub sequences : EachPage (λ n. form.sequence_page (pages n) n) layout.sequences
  pub names : HasNames size (facts_by state pages layout) r layout.catalog.table
      (map (λ stand. stand.table) layout.tables)
  -- 4. no page is reached twice; that no cell is is a rule of records, levels and fences are rules
  -- of trees
  pub once : IsOnce (linked_pages size pages layout)
  -- 5 to 8. each link meets its version, transactions are drawn, back versions are committed, and
  -- no key is taken twice
  pub records : AreRecords form.coding (facts_by state pages layout) (cells_of pages) r
  -- 6. no limbo transaction lies below the oldest active one, and a table that no committed row
  -- names has versions of those alone who have made it
  pub limbo : HasNoOldLimbo state pages
  pub own_tables : HasOwnTables (facts_by state pages layout) r layout.catalog.table
  -- 9. rows are found in the indexes
  pub indexed : IsIndexed (facts_by state pages layout) pages r

-- an image is sound, where that has become of the transactions which their bits say
abbrev pub IsSound : Form → ℕ → Pages → Layout → Reading → Type 0
IsSound form size pages layout r = IsSoundBy form size (state_at size pages) pages layout r
