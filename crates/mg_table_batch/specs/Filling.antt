-- A batch is filled with a new table: its first pointer page, and the rows of the catalog that say it.
use Rattle.std.specs.Prelude.{◌≡◌, ℕ, List, [], ◌∷◌, Option, None, Some}
use Rattle.mg_base.specs.Image.{Image}
use Rattle.mg_base.specs.declared.numbers.RecId.{RecId}
use Rattle.mg_catalog.specs.RowsSaid.{column_rows, table_row}
use Rattle.mg_chain.specs.Chains.{newest_link}
use Rattle.mg_chain.specs.Writing.{GivesSpot, MakesRecord}
use Rattle.mg_heap.specs.Growth.{AddsOrders, orders_to}
use Rattle.mg_image.specs.Form.{Row}
use Rattle.mg_model.specs.declared.table.Table.{Table}
use Rattle.mg_pointer.specs.PointerPage.{new_pointer_page}
use Rattle.mg_pool.specs.Batch.{Changed, PutsPage}
use Rattle.mg_pool.specs.declared.pool.Pool.{Pool}
use Rattle.mg_records.specs.declared.write.Write.TheVariants as writes
use Rattle.mg_row_writes.specs.Storing.{IsStored, MayBeStored}
use Rattle.mg_space.specs.Taking.{PutsInventory, TakesPage}
use Rattle.mg_space.specs.View.{viewed}
use Rattle.mg_value.specs.declared.shape.Shape.{Shape}
use Rattle.mg_version.specs.declared.cell.Link.{Link}
use Rattle.mg_version.specs.declared.cell.Version.{Version}

-- a new table of a name and a shape, which begins at a page and has no index
abbrev pub table_at : List ℕ → Shape → ℕ → Table
table_at name shape page =
    record { name = name; shape = shape; pointer = record { 0 = page }; indexes = [] }

-- the rows of the catalog that say it: its own, and those of its columns in their order
abbrev pub rows_at : List ℕ → Shape → ℕ → List Row
rows_at name shape page =
    table_row (table_at name shape page) ∷ column_rows name shape.key 0 shape.columns

-- The least free page is taken, and made the first pointer page of a table: it owns itself, stands first, and
-- lists nothing. Between the steps the batch is `taken`.
pub record TakesFirst {D L : Type 0} (store : Pool D L) (image : Image) (old new : Changed) (page : ℕ)
    : Type 0 where
  pub taken : Changed
  pub bit : PutsInventory store.geometry old taken page
  pub takes : TakesPage store.geometry (viewed store image old) (viewed store image taken) page
  pub puts : PutsPage taken new page (new_pointer_page store.geometry.size page page 0)

-- A version of t stores a row of the catalog, and a page has room for it.
pub record StoresRow (size : ℕ) (catalog : Table) (t : ℕ) (row : Row) (v : Version) : Type 0 where
  pub stored : IsStored catalog t (writes.Insert row) v
  pub may : MayBeStored size catalog.pointer.0 v

-- A row of the catalog is put: a place is given for it, and there a record is made, whose version stores the row
-- and is t's. Between the steps the batch is `given`.
pub record PutsRow {D L : Type 0} (store : Pool D L) (image : Image) (catalog : Table) (t : ℕ)
    (old new : Changed) (row : Row) (at : RecId) : Type 0 where
  pub given : Changed
  pub spot : GivesSpot store image old given catalog.pointer.0 at
  pub version : Version
  pub stores : StoresRow store.geometry.size catalog t row version
  pub makes : MakesRecord store image given new catalog.pointer.0 at version

-- rows of the catalog are put, one after another
pub data PutsRows {D L : Type 0} (store : Pool D L) (image : Image) (catalog : Table) (t : ℕ)
    : List Row → Changed → Changed → Type 0 where
  puts_none : (b : Changed) → PutsRows store image catalog t [] b b
  puts_more : (row : Row) (rows : List Row) (old mid new : Changed) (at : RecId)
      → PutsRow store image catalog t old mid row at → PutsRows store image catalog t rows mid new
      → PutsRows store image catalog t (row ∷ rows) old new

-- the page on which a record's newest version stands; that of its slot, where it has none
abbrev pub page_of_version : RecId → Option Link → ℕ
page_of_version at None = at.page.0
page_of_version at (Some link) = link.rec.page.0

-- A row is put that names a page: that page, and the inventory page with its bit, come before the page that has
-- the row. Between the steps the batch is `put`.
pub record PutsNaming {D L : Type 0} (store : Pool D L) (image : Image) (catalog : Table) (t : ℕ)
    (old new : Changed) (row : Row) (page : ℕ) : Type 0 where
  pub at : RecId
  pub put : Changed
  pub puts : PutsRow store image catalog t old put row at
  pub ordered : AddsOrders put new
      (orders_to store.geometry.size page (page_of_version at (newest_link (viewed store image put) at)))

-- the rows of a table are put: the first names its first pointer page. Between the steps the batch is `named`
abbrev pub PutsTable : {D L : Type 0} → Pool D L → Image → Table → ℕ → List Row → ℕ → Changed → Changed → Type 0
PutsTable store image catalog t [] page old new = new ≡ old
PutsTable store image catalog t (own ∷ columns) page old new =
    (named : Changed) × PutsNaming store image catalog t old named own page
    × PutsRows store image catalog t columns named new

-- A new table comes into a batch: its first pointer page is taken, and then its own row is put, and those of its
-- columns in their order. In between the batch is `begun`.
pub record FillsTable {D L : Type 0} (store : Pool D L) (image : Image) (catalog : Table) (t : ℕ)
    (name : List ℕ) (shape : Shape) (old new : Changed) : Type 0 where
  pub page : ℕ
  pub begun : Changed
  pub takes : TakesFirst store image old begun page
  pub rows : PutsTable store image catalog t (rows_at name shape page) page begun new
