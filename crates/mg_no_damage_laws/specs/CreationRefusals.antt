-- A new table does not come into a batch: while the catalog has empty data pages, this is for want of pages only where
-- almost none is free.
use Rattle.std.proofs.Common.{inl, inr, ◌≤◌, ◌+◌, ◌-◌, ◌*◌, ℕ, suc, List, [], ◌∷◌, length, sym, subst, arith}
use Rattle.mg_base.specs.Disk.{Meaning}
use Rattle.mg_base.specs.Image.{Image}
use Rattle.mg_base.specs.declared.geometry.Geometry.{Geometry}
use Rattle.mg_image.specs.Form.{Pages, Row}
use Rattle.mg_model.specs.declared.table.Table.{Table}
use Rattle.mg_no_damage_laws.specs.CatalogGrowth.{StoresShort}
use Rattle.mg_no_damage_laws.specs.EmptyPages.{HasEmpty}
use Rattle.mg_space.specs.FreePages.{TakingKeepsRegions}
use Rattle.mg_no_damage_laws.specs.NewTables.{EachRow}
use Rattle.mg_pool.specs.Batch.{Changed}
use Rattle.mg_pool.specs.declared.pool.Pool.{Pool}
use Rattle.mg_space.specs.Taking.{IsGeometry}
use Rattle.mg_space.specs.View.{KeepsStore, viewed}
use Rattle.mg_space.specs.ViewLaws.{viewed_on}
use Rattle.mg_space.specs.declared.fault.SpaceFault.{SpaceFault}
use Rattle.mg_space.specs.declared.links.FireLinks.{FireLinks}
use Rattle.mg_table_batch.specs.Filling.{TakesFirst, rows_at}
use Rattle.mg_table_batch.specs.Refusals.{RefusesRows, RefusesRowsOf, RefusesTable, rows_first, rows_later, table_memory, table_page, table_rows}
use Rattle.mg_value.specs.declared.shape.Shape.{Shape}
use Rattle.mg_free_page_laws.specs.CellRefusals.{memory_other, other_there, since_read, still_lawful}
use Rattle.mg_no_damage_laws.specs.CreationRows.{HasLeft, RowTakes, has_left, naming_takes, row_takes}
use Rattle.mg_free_page_laws.specs.FreePages.{IsNotFull}
use Rattle.mg_free_page_laws.specs.GrowthLaws.{take_there}
use Rattle.mg_free_page_laws.specs.RowSpending.{BatchLaws}
use Rattle.mg_free_page_laws.specs.TableRefusals.{after_there, more_there, naming_there, row_there}
use Rattle.mg_free_page_laws.specs.TableSpending.{first_taken}

module _ (keeps : TakingKeepsRegions) {D : Type 0} (m : Meaning D) (laws : BatchLaws m) (catalog : Table) (t : ℕ)
    (image : Image) where
  -- so many data pages are empty still, since pages were only read
  left_on : (old ready : Pool D FireLinks) (batch : Changed) (left : ℕ) → KeepsStore m old ready
      → HasLeft old.geometry.size (viewed old image batch) catalog.pointer.0 left
      → HasLeft ready.geometry.size (viewed ready image batch) catalog.pointer.0 left
  left_on old ready batch left kept has =
      subst (λ (g : Geometry). HasLeft g.size (viewed ready image batch) catalog.pointer.0 left) (sym kept.geometry)
      (subst (λ (ps : Pages). HasLeft old.geometry.size ps catalog.pointer.0 left)
      (sym (viewed_on m old ready image batch kept)) has)

  -- a row was put, pages were read, and a later one is refused
  then_there : (old ready : Pool D FireLinks) (batch mid : Changed) (left most count : ℕ) (fault : SpaceFault)
      (lawful : IsGeometry old.geometry) (it : RowTakes keeps m laws old image lawful catalog t left batch mid)
      → KeepsStore m old ready → 4 * suc count ≤ most + 2 * left
      → (4 * count ≤ most - it.spent + 2 * (left - 2)
      → IsNotFull ready.geometry (viewed ready image mid) (most - it.spent + 4) fault)
      → IsNotFull old.geometry (viewed old image batch) (most + 4) fault
  then_there old ready batch mid left most count fault lawful it read enough rest =
      let few = it.few in
      more_there old.geometry (viewed old image batch) (most - it.spent + 4 + it.spent) (most + 4) fault
      (omega (arith, few, enough))
      (after_there old.geometry (viewed old image batch) (viewed old image mid) it.spent (most - it.spent + 4) fault
      it.takes (since_read m old ready image mid (most - it.spent + 4) fault read
      (rest (omega (arith, few, enough)))))

  rows_there : (new : Pool D FireLinks) (fault : SpaceFault) (rows : List Row)
      → EachRow (StoresShort catalog t) rows → (left most : ℕ) → 4 * length rows ≤ most + 2 * left
      → (old : Pool D FireLinks) (batch : Changed) → IsGeometry old.geometry
      → HasLeft old.geometry.size (viewed old image batch) catalog.pointer.0 left
      → RefusesRows m new image catalog t fault rows old batch
      → IsNotFull old.geometry (viewed old image batch) (most + 4) fault
  rows_there new fault [] short left most enough old batch lawful has refused = elim refused [ ]
  rows_there new fault (row ∷ rows) short left most enough old batch lawful has (rows_first _ _ _ _ refused) =
      more_there old.geometry (viewed old image batch) 4 (most + 4) fault (omega arith)
      (row_there keeps m laws catalog t image old new batch row fault lawful refused)
  rows_there new fault (row ∷ rows) short left most enough old batch lawful has
      (rows_later _ _ _ ready _ mid at puts read refused) =
      let it = row_takes keeps m laws old image lawful catalog t left batch mid row at short.0 has puts in
      then_there old ready batch mid left most (length rows) fault lawful it read enough
      (λ still_enough. rows_there new fault rows short.1 (left - 2) (most - it.spent) still_enough ready mid
      (still_lawful m old ready read lawful) (left_on old ready mid (left - 2) read it.later) refused)

  rows_of_there : (new : Pool D FireLinks) (fault : SpaceFault) (rows : List Row)
      → EachRow (StoresShort catalog t) rows → (left most : ℕ) → 4 * length rows ≤ most + 2 * left
      → (old : Pool D FireLinks) (batch : Changed) → IsGeometry old.geometry
      → HasLeft old.geometry.size (viewed old image batch) catalog.pointer.0 left
      → RefusesRowsOf m old new image catalog t batch rows fault
      → IsNotFull old.geometry (viewed old image batch) (most + 4) fault
  rows_of_there new fault [] short left most enough old batch lawful has never = absurd never
  rows_of_there new fault (own ∷ columns) short left most enough old batch lawful has (inl refused) =
      more_there old.geometry (viewed old image batch) 4 (most + 4) fault (omega arith)
      (naming_there keeps m laws catalog t image old new batch own fault lawful refused)
  rows_of_there new fault (own ∷ columns) short left most enough old batch lawful has (inr later) =
      let it = naming_takes keeps m laws old image lawful catalog t left batch later.named own later.page short.0 has
      later.puts in
      then_there old later.ready batch later.named left most (length columns) fault lawful it later.keeps enough
      (λ still_enough. rows_there new fault columns short.1 (left - 2) (most - it.spent) still_enough later.ready
      later.named (still_lawful m old later.ready later.keeps lawful)
      (left_on old later.ready later.named (left - 2) later.keeps it.later) later.refused)

  -- no first page is taken, or the rows are not put
  pub filling_there : (old new : Pool D FireLinks) (name : List ℕ) (shape : Shape) (batch : Changed)
      (fault : SpaceFault) (left most : ℕ) → IsGeometry old.geometry
      → ((page : ℕ) → EachRow (StoresShort catalog t) (rows_at name shape page))
      → ((page : ℕ) → 4 * length (rows_at name shape page) ≤ most + 2 * left)
      → ((begun : Changed) (page : ℕ) → TakesFirst old image batch begun page
      → HasEmpty old.geometry.size (viewed old image begun) catalog.pointer.0 left)
      → RefusesTable m old new image catalog t name shape batch fault
      → IsNotFull old.geometry (viewed old image batch) (most + 4 + 1) fault
  filling_there old new name shape batch fault left most lawful short enough has (table_memory memory) =
      other_there old.geometry (viewed old image batch) (most + 4 + 1) fault (memory_other fault memory)
  filling_there old new name shape batch fault left most lawful short enough has (table_page refused) =
      take_there old.geometry (viewed old image batch) fault refused (most + 4 + 1) (omega arith)
  filling_there old new name shape batch fault left most lawful short enough has
      (table_rows page begun ready takes read refused) =
      after_there old.geometry (viewed old image batch) (viewed old image begun) 1 (most + 4) fault
      (first_taken keeps m laws old image lawful catalog t batch begun page takes)
      (since_read m old ready image begun (most + 4) fault read
      (rows_of_there new fault (rows_at name shape page) (short page) left most (enough page) ready begun
      (still_lawful m old ready read lawful) (left_on old ready begun left read
      (has_left old.geometry.size (viewed old image begun) catalog.pointer.0 left (has begun page takes))) refused))
