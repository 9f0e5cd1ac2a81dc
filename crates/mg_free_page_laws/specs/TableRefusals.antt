-- Where four pages are free, no row of the catalog is refused for want of them.
use Rattle.std.proofs.Common.{◌≡◌, ◌∙◌, ◌≤◌, ◌+◌, ℕ, List, sym, arith}
use Rattle.mg_base.specs.Disk.{Meaning}
use Rattle.mg_base.specs.Image.{Image}
use Rattle.mg_base.specs.declared.geometry.Geometry.{Geometry}
use Rattle.mg_base.specs.declared.numbers.RecId.{RecId}
use Rattle.mg_chain.specs.Refusals.{RefusesCellAt}
use Rattle.mg_image.specs.Form.{Pages, Row}
use Rattle.mg_model.specs.declared.table.Table.{Table}
use Rattle.mg_pool.specs.Batch.{Changed}
use Rattle.mg_pool.specs.declared.batch.BatchPage.{BatchPage}
use Rattle.mg_pool.specs.declared.pool.Pool.{Pool}
use Rattle.mg_space.specs.Taking.{IsGeometry}
use Rattle.mg_space.specs.View.{viewed}
use Rattle.mg_space.specs.declared.fault.SpaceFault.{SpaceFault}
use Rattle.mg_space.specs.declared.fault.SpaceFault.TheVariants as faults
use Rattle.mg_space.specs.declared.links.FireLinks.{FireLinks}
use Rattle.mg_table_batch.specs.Refusals.{RefusesNaming, RefusesRow, RefusesStoring, no_memory, own_memory, own_row, own_slot, row_unmade, row_unplaced, row_unstored, too_long, unfit}
use Rattle.mg_space.specs.FreePages.{TakingKeepsRegions}
use Rattle.mg_free_page_laws.specs.CellRefusals.{IsOther, memory_other, other_there, since_read, still_lawful}
use Rattle.mg_free_page_laws.specs.FreePages.{IsNotFull, TakesAtMost}
use Rattle.mg_free_page_laws.specs.FreeLaws.{fewer}
use Rattle.mg_free_page_laws.specs.RowSpending.{BatchLaws}

-- where fewer are wanted than are free
pub more_there : (g : Geometry) (pages : Pages) (few many : ℕ) (fault : SpaceFault) → few ≤ many
    → IsNotFull g pages few fault → IsNotFull g pages many fault
more_there g pages few many fault less there regions has = there regions (fewer g pages many few less has)

-- after pages were taken
pub after_there : (g : Geometry) (old mid : Pages) (spent most : ℕ) (fault : SpaceFault) → TakesAtMost g old mid spent
    → IsNotFull g mid most fault → IsNotFull g old (most + spent) fault
after_there g old mid spent most fault took there regions has =
    there (took.regions regions) (took.left regions most has)

module _ (keeps : TakingKeepsRegions) {D : Type 0} (m : Meaning D) (laws : BatchLaws m) (catalog : Table) (t : ℕ)
    (image : Image) where
  storing_other : (size : ℕ) (row : Row) (fault : SpaceFault) → RefusesStoring size catalog t row fault → IsOther fault
  storing_other size row fault (no_memory memory) limit full = memory_other fault memory limit full
  storing_other size row fault (unfit never is) limit full =
      let both : faults.Full limit ≡ faults.Damaged _ = sym full ∙ is in absurd cc
  storing_other size row fault (too_long v stored never is) limit full =
      let both : faults.Full limit ≡ faults.Damaged _ = sym full ∙ is in absurd cc

  cell_other : (store : Pool D FireLinks) (pages : List BatchPage) (view : Pages) (at : RecId) (fault : SpaceFault)
      → RefusesCellAt m store pages view at fault → IsOther fault
  cell_other store pages view at (faults.Full most) never limit is = absurd never
  cell_other store pages view at (faults.Damaged it) refused limit is = absurd cc
  cell_other store pages view at (faults.Pool fault) refused limit is = absurd cc

  pub row_there : (old new : Pool D FireLinks) (batch : Changed) (row : Row) (fault : SpaceFault) → IsGeometry old.geometry
      → RefusesRow m old new image catalog t batch row fault → IsNotFull old.geometry (viewed old image batch) 4 fault
  row_there old new batch row fault lawful (row_unstored refused) =
      other_there old.geometry (viewed old image batch) 4 fault (storing_other old.geometry.size row fault refused)
  row_there old new batch row fault lawful (row_unplaced refused) = more_there old.geometry (viewed old image batch) 2 4
      fault (omega arith) (laws.spot_there old new image batch catalog.pointer.0 fault refused lawful)
  row_there old new batch row fault lawful (row_unmade at v given ready spot stores read refused) =
      after_there old.geometry (viewed old image batch) (viewed old image given) 2 2 fault
      (laws.spot_takes old image batch given catalog.pointer.0 at spot lawful)
      (since_read m old ready image given 2 fault read
      (laws.making_there ready new image given catalog.pointer.0 at v fault refused (still_lawful m old ready read lawful)))

  pub naming_there : (old new : Pool D FireLinks) (batch : Changed) (row : Row) (fault : SpaceFault)
      → IsGeometry old.geometry → RefusesNaming m old new image catalog t batch row fault
      → IsNotFull old.geometry (viewed old image batch) 4 fault
  naming_there old new batch row fault lawful (own_memory memory) =
      other_there old.geometry (viewed old image batch) 4 fault (memory_other fault memory)
  naming_there old new batch row fault lawful (own_row refused) = row_there old new batch row fault lawful refused
  naming_there old new batch row fault lawful (own_slot at put puts refused) =
      other_there old.geometry (viewed old image batch) 4 fault
      (cell_other new put.pages (viewed old image put) at fault refused)
