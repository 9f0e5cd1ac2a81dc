-- Why a batch is not filled with a new table.
use Rattle.std.specs.Prelude.{◌≡◌, ◌⊎◌, ℕ, List, [], ◌∷◌}
use Rattle.mg_base.specs.Disk.{Meaning}
use Rattle.mg_base.specs.Image.{Image}
use Rattle.mg_base.specs.declared.numbers.RecId.{RecId}
use Rattle.mg_chain.specs.Refusals.{RefusesCellAt}
use Rattle.mg_chain.specs.Writing.{GivesSpot}
use Rattle.mg_chain.specs.WritingRefusals.{IsMemory, RefusesFirst, RefusesSpot}
use Rattle.mg_image.specs.Form.{Row}
use Rattle.mg_model.specs.declared.table.Table.{Table}
use Rattle.mg_pool.specs.Batch.{Changed}
use Rattle.mg_pool.specs.declared.pool.Pool.{Pool}
use Rattle.mg_records.specs.declared.write.Write.TheVariants as writes
use Rattle.mg_batches.specs.Batches.{not_lawful}
use Rattle.mg_row_writes.specs.Storing.{IsStored, MayBeStored}
use Rattle.mg_space.specs.Taking.{RefusesTake}
use Rattle.mg_space.specs.View.{KeepsStore, viewed}
use Rattle.mg_space.specs.declared.fault.SpaceFault.{SpaceFault}
use Rattle.mg_space.specs.declared.fault.SpaceFault.TheVariants as faults
use Rattle.mg_value.specs.Rows.{RowFits}
use Rattle.mg_value.specs.declared.shape.Shape.{Shape}
use Rattle.mg_version.specs.declared.cell.Version.{Version}
use Rattle.mg_table_batch.specs.Filling.{PutsNaming, PutsRow, StoresRow, TakesFirst, rows_at}

-- why a row of the catalog is not stored: memory is wanting; it does not fit the catalog, or a page has no room for
-- its version, which is so of no row that says a table
pub data RefusesStoring (size : ℕ) (catalog : Table) (t : ℕ) (row : Row) (fault : SpaceFault) : Type 0 where
  no_memory : IsMemory fault → RefusesStoring size catalog t row fault
  unfit : (RowFits catalog.shape.columns row → ⊥) → fault ≡ faults.Damaged not_lawful
      → RefusesStoring size catalog t row fault
  too_long : (v : Version) → IsStored catalog t (writes.Insert row) v
      → (MayBeStored size catalog.pointer.0 v → ⊥) → fault ≡ faults.Damaged not_lawful
      → RefusesStoring size catalog t row fault

-- Why a row of the catalog is not put: it is not stored; no place is given; or no record is made at the place. Pages
-- are read before that: then the cache is `ready`.
pub data RefusesRow {D L : Type 0} (m : Meaning D) (old new : Pool D L) (image : Image) (catalog : Table)
    (t : ℕ) (batch : Changed) (row : Row) (fault : SpaceFault) : Type 0 where
  row_unstored : RefusesStoring old.geometry.size catalog t row fault
      → RefusesRow m old new image catalog t batch row fault
  row_unplaced : RefusesSpot m old new image batch catalog.pointer.0 fault
      → RefusesRow m old new image catalog t batch row fault
  row_unmade : (at : RecId) (v : Version) (given : Changed) (ready : Pool D L)
      → GivesSpot old image batch given catalog.pointer.0 at → StoresRow old.geometry.size catalog t row v
      → KeepsStore m old ready → RefusesFirst m ready new image given catalog.pointer.0 at v fault
      → RefusesRow m old new image catalog t batch row fault

-- why rows of the catalog are not all put: the first is not, or it is, and a later one is not
pub data RefusesRows {D L : Type 0} (m : Meaning D) (new : Pool D L) (image : Image) (catalog : Table)
    (t : ℕ) (fault : SpaceFault) : List Row → Pool D L → Changed → Type 0 where
  rows_first : (row : Row) (rows : List Row) (old : Pool D L) (batch : Changed)
      → RefusesRow m old new image catalog t batch row fault
      → RefusesRows m new image catalog t fault (row ∷ rows) old batch
  rows_later : (row : Row) (rows : List Row) (old ready : Pool D L) (batch mid : Changed) (at : RecId)
      → PutsRow old image catalog t batch mid row at → KeepsStore m old ready
      → RefusesRows m new image catalog t fault rows ready mid
      → RefusesRows m new image catalog t fault (row ∷ rows) old batch

-- Why a row that names a page is not put: memory is wanting, the row is not put, or it is, and its slot is not
-- read.
pub data RefusesNaming {D L : Type 0} (m : Meaning D) (old new : Pool D L) (image : Image) (catalog : Table)
    (t : ℕ) (batch : Changed) (row : Row) (fault : SpaceFault) : Type 0 where
  own_memory : IsMemory fault → RefusesNaming m old new image catalog t batch row fault
  own_row : RefusesRow m old new image catalog t batch row fault
      → RefusesNaming m old new image catalog t batch row fault
  own_slot : (at : RecId) (put : Changed) → PutsRow old image catalog t batch put row at
      → RefusesCellAt m new put.pages (viewed old image put) at fault
      → RefusesNaming m old new image catalog t batch row fault

-- The first row of a table is put, which names a page, and a later one is not. Pages are read in between: then the
-- cache is `ready`.
pub record RefusesLater {D L : Type 0} (m : Meaning D) (old new : Pool D L) (image : Image) (catalog : Table)
    (t : ℕ) (batch : Changed) (own : Row) (columns : List Row) (fault : SpaceFault) : Type 0 where
  pub page : ℕ
  pub named : Changed
  pub ready : Pool D L
  pub puts : PutsNaming old image catalog t batch named own page
  pub keeps : KeepsStore m old ready
  pub refused : RefusesRows m new image catalog t fault columns ready named

-- why the rows of a table are not put: the first one, which names a page, or a later one
abbrev pub RefusesRowsOf : {D L : Type 0} → Meaning D → Pool D L → Pool D L → Image → Table → ℕ → Changed → List Row
    → SpaceFault → Type 0
RefusesRowsOf m old new image catalog t batch [] fault = ⊥
RefusesRowsOf m old new image catalog t batch (own ∷ columns) fault =
    RefusesNaming m old new image catalog t batch own fault
    ⊎ RefusesLater m old new image catalog t batch own columns fault

-- Why a new table does not come into a batch: memory is wanting; no page is taken; or its rows are not put. Pages
-- are read in between: then the cache is `ready`.
pub data RefusesTable {D L : Type 0} (m : Meaning D) (old new : Pool D L) (image : Image) (catalog : Table)
    (t : ℕ) (name : List ℕ) (shape : Shape) (batch : Changed) (fault : SpaceFault) : Type 0 where
  table_memory : IsMemory fault → RefusesTable m old new image catalog t name shape batch fault
  table_page : RefusesTake old.geometry (viewed old image batch) fault
      → RefusesTable m old new image catalog t name shape batch fault
  table_rows : (page : ℕ) (begun : Changed) (ready : Pool D L) → TakesFirst old image batch begun page
      → KeepsStore m old ready
      → RefusesRowsOf m ready new image catalog t begun (rows_at name shape page) fault
      → RefusesTable m old new image catalog t name shape batch fault
