-- The rows that the catalog of an image shows, or what is found in its records.
use Rattle.std.specs.Prelude.{◌≡◌, ℕ, Bool, List, [], ◌∷◌, ◌++◌, Option, None, Some, length}
use Rattle.mg_base.specs.declared.numbers.RecId.{RecId}
use Rattle.mg_check_catalog.specs.CatalogRung.{first_of}
use Rattle.mg_check_records.specs.Listing.{records_of}
use Rattle.mg_check_records.specs.Marks.{met_in, most_slots}
use Rattle.mg_check_records.specs.Records.{none_met}
use Rattle.mg_check_records.specs.Walks.{IsWalk, Met, all_met}
use Rattle.mg_check_tables.specs.Seats.{AreDataPages}
use Rattle.mg_file_figures.specs.declared.catalog_rows.CatalogRows.{CatalogRows}
use Rattle.mg_file_figures.specs.declared.catalog_rows.CatalogRows.TheVariants.{Found, Shown}
use Rattle.mg_file_figures.specs.declared.catalog_rows.OneRecord.{OneRecord}
use Rattle.mg_file_figures.specs.declared.catalog_rows.OneRecord.TheVariants as ones
use Rattle.mg_findings.specs.declared.finding.Finding.{Finding}
use Rattle.mg_image.specs.Catalog.{catalog_table}
use Rattle.mg_image.specs.Form.{Pages, Row}
use Rattle.mg_image.specs.Inventory.{state_at}
use Rattle.mg_image.specs.Records.{Cells, cells_of, newest_of, shown}
use Rattle.mg_image.specs.declared.entry.Entry.{Entry}
use Rattle.mg_model.specs.Answers.{is_committed}
use Rattle.mg_model.specs.declared.table.Table.{Table}

-- whether a transaction of an image is committed
abbrev pub committed_at : ℕ → Pages → ℕ → Bool
committed_at size pages t = is_committed (state_at size pages t)

-- a row, if there is one, as a list
abbrev pub row_list : Option Row → List Row
row_list None = []
row_list (Some row) = row ∷ []

-- The walks from these primary slots of a table, in their order, each to the end of its chain: these cells were met then,
-- and these rows are shown.
pub data AreShown (h : Cells) (table : Table) (ns : List ℕ) (committed : ℕ → Bool)
    : List RecId → Met → List Row → Type 0 where
  begun : AreShown h table ns committed [] none_met []
  more : (ps : List RecId) (met : Met) (rows : List Row) (p : RecId) (es : List Entry)
      → AreShown h table ns committed ps met rows
      → IsWalk h table ns met p (newest_of p (h p)) es None
      → AreShown h table ns committed (ps ++ p ∷ []) (all_met es met)
      (rows ++ row_list (shown committed es))

-- The first of such walks that comes to no end finds this.
pub record IsStopped (h : Cells) (table : Table) (ns : List ℕ) (committed : ℕ → Bool)
    (ps : List RecId) (f : Finding) : Type 0 where
  pub before : List RecId
  pub at : RecId
  pub after : List RecId
  pub split : before ++ at ∷ after ≡ ps
  pub met : Met
  pub rows : List Row
  pub walked : AreShown h table ns committed before met rows
  pub versions : List Entry
  pub stop : IsWalk h table ns met at (newest_of at (h at)) versions (Some f)

-- A record was walked over to its end: this row it shows, and these cells are met now.
pub record ShowsRecord (pages : Pages) (table : Table) (ns : List ℕ) (size : ℕ) (committed : ℕ → Bool)
    (old new : List Bool) (p : RecId) (row : Option Row) : Type 0 where
  pub versions : List Entry
  pub walk : IsWalk (cells_of pages) table ns (met_in ns (most_slots size) old) p
      (newest_of p (cells_of pages p)) versions None
  pub shows : row ≡ shown committed versions
  pub met : met_in ns (most_slots size) new ≡ all_met versions (met_in ns (most_slots size) old)
  pub long : length new ≡ length old

-- what a record says: what is found where the walk over it comes to no end, or the row that it shows
abbrev pub SaysRecord : Pages → Table → List ℕ → ℕ → (ℕ → Bool) → List Bool → List Bool → RecId
    → OneRecord → Type 0
SaysRecord pages table ns size committed old new p (ones.Stopped f) = (versions : List Entry)
    × IsWalk (cells_of pages) table ns (met_in ns (most_slots size) old) p
    (newest_of p (cells_of pages p)) versions (Some f)
SaysRecord pages table ns size committed old new p (ones.Shown row) =
    ShowsRecord pages table ns size committed old new p row

-- what the records of the catalog with these data pages say: the rows that they show where these transactions are
-- committed, or what is found of them
abbrev pub AreRowsOf : Pages → Table → List ℕ → (ℕ → Bool) → CatalogRows → Type 0
AreRowsOf pages table ns committed (Found f) =
    IsStopped (cells_of pages) table ns committed (records_of pages ns) f
AreRowsOf pages table ns committed (Shown rows) = (met : Met)
    × AreShown (cells_of pages) table ns committed (records_of pages ns) met rows.items

-- The catalog of an image shows these rows.
pub record ShowsRows (size : ℕ) (pages : Pages) (rows : List Row) : Type 0 where
  pub data_pages : List ℕ
  pub are : AreDataPages pages (first_of pages) data_pages
  pub met : Met
  pub walked : AreShown (cells_of pages) (catalog_table (first_of pages)) data_pages (committed_at size pages)
      (records_of pages data_pages) met rows

-- Or this is found in its records first.
pub record IsCatalogStop (size : ℕ) (pages : Pages) (f : Finding) : Type 0 where
  pub data_pages : List ℕ
  pub are : AreDataPages pages (first_of pages) data_pages
  pub stopped : IsStopped (cells_of pages) (catalog_table (first_of pages)) data_pages (committed_at size pages)
      (records_of pages data_pages) f
