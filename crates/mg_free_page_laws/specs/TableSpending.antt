-- A new table takes its first page, four pages a row at most, and two for each time that the catalog grew before.
use Rattle.std.proofs.Common.{◌+◌, ◌*◌, ℕ, List, refl, arith}
use Rattle.mg_base.specs.Disk.{Meaning}
use Rattle.mg_base.specs.Image.{Image}
use Rattle.mg_base.specs.declared.geometry.Geometry.{Geometry}
use Rattle.mg_base.specs.declared.numbers.RecId.{RecId}
use Rattle.mg_image.specs.Form.{Pages, Row}
use Rattle.mg_model.specs.declared.table.Table.{Table}
use Rattle.mg_pool.specs.Batch.{Changed}
use Rattle.mg_pool.specs.declared.pool.Pool.{Pool}
use Rattle.mg_batches.specs.Batches.{nothing_yet}
use Rattle.mg_space.specs.Taking.{IsGeometry}
use Rattle.mg_space.specs.View.{viewed}
use Rattle.mg_space.specs.ViewLaws.{viewed_else}
use Rattle.mg_space.specs.declared.links.FireLinks.{FireLinks}
use Rattle.mg_table_batch.specs.Filling.{PutsRow, TakesFirst}
use Rattle.mg_table_batch.specs.Making.{Grows, GrowsAsWanted, gets_one, has_enough}
use Rattle.mg_value.specs.declared.shape.Shape.{Shape}
use Rattle.mg_space.specs.FreePages.{TakingKeepsRegions}
use Rattle.mg_free_page_laws.specs.BatchStages.{RoomTakes}
use Rattle.mg_free_page_laws.specs.FreePages.{TakesAtMost}
use Rattle.mg_free_page_laws.specs.FreeLaws.{both_taken, one_taken}
use Rattle.mg_free_page_laws.specs.KindLaws.{one_changed}
use Rattle.mg_free_page_laws.specs.RowSpending.{BatchLaws}
use Rattle.mg_free_page_laws.specs.Spending.{SpendsAtMost, ToldAreHeld}
use Rattle.mg_free_page_laws.specs.SpendingLaws.{both_spend, more_spent, nothing_spent, own_spends, read_spends}

module _ (keeps : TakingKeepsRegions) {D : Type 0} (m : Meaning D) (laws : BatchLaws m) (store : Pool D FireLinks)
    (image : Image) (lawful : IsGeometry store.geometry) (catalog : Table) (t : ℕ) where
  abbrev g : Geometry
  g = store.geometry

  abbrev view : Changed → Pages
  view b = viewed store image b

  -- its first pointer page is taken and made
  pub first_taken : (old new : Changed) (page : ℕ) → TakesFirst store image old new page
      → TakesAtMost g (view old) (view new) 1
  first_taken old new page it = both_taken g (view old) (view it.taken) (view new) 1 0
      (one_taken keeps g (view old) (view it.taken) page lawful it.takes)
      (one_changed g (view it.taken) (view new) page (λ regions region below. it.takes.free.no_inventory region)
      (viewed_else store image it.taken new page _ it.puts))

  pub row_taken : (old new : Changed) (row : Row) (at : RecId) → PutsRow store image catalog t old new row at
      → TakesAtMost g (view old) (view new) 4
  row_taken old new row at it = both_taken g (view old) (view it.given) (view new) 2 2
      (laws.spot_takes store image old it.given catalog.pointer.0 at it.spot lawful)
      (laws.making_takes store image it.given new catalog.pointer.0 at it.version it.makes lawful)

-- the catalog has got pages, two each time at most
module _ {D : Type 0} (m : Meaning D) (holds : ToldAreHeld m) (room : RoomTakes D) (catalog : Table) (t : ℕ)
    (name : List ℕ) (shape : Shape) where
  growth_spends : (before after : Pool D FireLinks) → Grows m before after catalog.pointer.0
      → SpendsAtMost m before after 2
  growth_spends before after it = own_spends m before after _ 2
      (λ image batch gives lawful. room before image nothing_yet batch catalog.pointer.0 before.geometry.size gives.0
      gives.1 lawful) it

  pub growths_spend : (count : ℕ) (a b : Pool D FireLinks) → GrowsAsWanted m catalog t name shape count a b
      → SpendsAtMost m a b (2 * count)
  growths_spend count a b (has_enough store) = nothing_spent m store store refl
  growths_spend count a b (gets_one some before mid after grows gets) = more_spent m a b (2 * some + (0 + 2))
      (2 * (some + 1)) (omega arith) (both_spend m holds a mid b (2 * some) (0 + 2)
      (growths_spend some a mid grows)
      (both_spend m holds mid gets.ready b 0 2 (read_spends m mid gets.ready gets.wants.keeps)
      (growth_spends gets.ready b gets.grows)))
