-- What a batch with a new table has is what the laws on catalogs take: a page that is taken and made, orders, and
-- records that are made one after another.
use Rattle.std.proofs.Common.{◌≡◌, ◌⊎◌, ℕ, List, [], ◌∷◌, inl, inr, refl, subst, sym}
use Rattle.mg_base.specs.Image.{Image}
use Rattle.mg_base.specs.declared.numbers.RecId.{RecId}
use Rattle.mg_base.specs.declared.transaction.TxState.{TxState}
use Rattle.mg_tie_laws.specs.CatalogRows.{IsRowOf}
use Rattle.mg_tie_laws.specs.Filling.{Fills, HasTaken, NewRow, TakesAndMakes, filled, makes, orders_more, takes}
use Rattle.mg_heap.specs.Growth.{orders_to}
use Rattle.mg_image.specs.Form.{Form, Pages, Row}
use Rattle.mg_model.specs.declared.table.Table.{Table}
use Rattle.mg_pointer.specs.PointerPage.{new_pointer_page}
use Rattle.mg_pointer.specs.PointerPageLaws.{length-new_pointer_page}
use Rattle.mg_pool.specs.Batch.{Changed}
use Rattle.mg_pool.specs.declared.pool.Pool.{Pool}
use Rattle.mg_value.specs.declared.shape.Shape.{Shape}
use Rattle.mg_version.specs.declared.cell.Version.{Version}
use Rattle.mg_chain.specs.Chains.{newest_link}
use Rattle.mg_space.specs.View.{viewed}
use Rattle.mg_table_batch.specs.Filling.{FillsTable, PutsRow, PutsRows, PutsTable, StoresRow, TakesFirst, page_of_version, puts_more, puts_none, rows_at}

-- a row that was put, as the laws have it
abbrev pub row_put : RecId → Version → Row → NewRow
row_put at v row = record { at = at; version = v; row = row }

-- a row is one of these
abbrev pub IsOneOf : List Row → Row → Type 0
IsOneOf [] row = ⊥
IsOneOf (first ∷ rows) row = (row ≡ first) ⊎ IsOneOf rows row

-- of each of these rows something holds, wherever it is put, with each version of t that stores it
abbrev pub HoldsOfRows : ℕ → Table → ℕ → List Row → (NewRow → Type 0) → Type 0
HoldsOfRows size catalog t rows P =
    (row : Row) → IsOneOf rows row → (at : RecId) (v : Version) → StoresRow size catalog t row v → P (row_put at v row)

-- a batch with a new table is filled as the laws on catalogs say, where its rows are of a transaction and may be
-- written; and it has a page that was taken and made, the first pointer page
abbrev pub TablesFillCatalogs : Form → (D L : Type 0) → Type 0
TablesFillCatalogs form D L = (store : Pool D L) (image : Image) (catalog : Table) (t : ℕ) (name : List ℕ)
    (shape : Shape) (by : ℕ) (state : ℕ → TxState) (pages : Pages) (old new : Changed)
    → (fills : FillsTable store image catalog t name shape old new)
    → HoldsOfRows store.geometry.size catalog t (rows_at name shape fills.page)
    (IsRowOf form store.geometry.size by state pages)
    → (made : Fills store image catalog.pointer.0 (IsRowOf form store.geometry.size by state pages) old new)
    × HasTaken store image catalog.pointer.0 (IsRowOf form store.geometry.size by state pages) old new made
    fills.page (new_pointer_page store.geometry.size fills.page fills.page 0)

module _ {D L : Type 0} (store : Pool D L) (image : Image) (catalog : Table) (t : ℕ) (P : NewRow → Type 0) where
  -- one row
  row_fills : (old mid new : Changed) (row : Row) (at : RecId) → (put : PutsRow store image catalog t old mid row at)
      → P (row_put at put.version row) → Fills store image catalog.pointer.0 P mid new
      → Fills store image catalog.pointer.0 P old new
  row_fills old mid new row at put holds more =
      makes old put.given mid new (row_put at put.version row) holds put.spot put.makes more

  -- rows of columns
  rows_fill : (rows : List Row) (old new : Changed) → PutsRows store image catalog t rows old new
      → HoldsOfRows store.geometry.size catalog t rows P → Fills store image catalog.pointer.0 P old new
  rows_fill rows old new (puts_none b) holds = filled b
  rows_fill rows old new (puts_more row later before mid after at put more) holds =
      row_fills before mid after row at put (holds row (inl refl) at put.version put.stores)
      (rows_fill later mid after more (λ other is. holds other (inr is)))

  -- all rows of a table
  table_fills : (rows : List Row) (page : ℕ) (old new : Changed) → PutsTable store image catalog t rows page old new
      → HoldsOfRows store.geometry.size catalog t rows P → Fills store image catalog.pointer.0 P old new
  table_fills [] page old new same holds =
      subst (λ (b : Changed). Fills store image catalog.pointer.0 P old b) (sym same) (filled old)
  table_fills (own ∷ columns) page old new (named, puts, more) holds =
      row_fills old puts.put new own puts.at puts.puts
      (holds own (inl refl) puts.at puts.puts.version puts.puts.stores)
      (orders_more puts.put named new (orders_to store.geometry.size page
      (page_of_version puts.at (newest_link (viewed store image puts.put) puts.at))) puts.ordered
      (rows_fill columns named new more (λ other is. holds other (inr is))))

  -- the first page is taken and made
  takes_and_makes : (old new : Changed) (page : ℕ) → TakesFirst store image old new page
      → TakesAndMakes store image old new page (new_pointer_page store.geometry.size page page 0)
  takes_and_makes old new page it = record {
    taken = it.taken;
    bit = it.bit;
    takes = it.takes;
    puts = it.puts;
    len = length-new_pointer_page store.geometry.size page page 0;
  }

pub tables_fill_catalogs : (form : Form) (D L : Type 0) → TablesFillCatalogs form D L
tables_fill_catalogs form D L store image catalog t name shape by state pages old new fills holds = (
  takes old fills.begun new fills.page (new_pointer_page store.geometry.size fills.page fills.page 0)
      (takes_and_makes store image catalog t (IsRowOf form store.geometry.size by state pages) old fills.begun
      fills.page fills.takes)
      (table_fills store image catalog t (IsRowOf form store.geometry.size by state pages)
      (rows_at name shape fills.page) fills.page fills.begun new fills.rows holds),
  inl (refl, refl),
)
