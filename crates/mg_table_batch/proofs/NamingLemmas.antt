-- A row is put that names a page.
use Rattle.std.proofs.Common.{◌≡◌, ◌∙◌, ℕ, Option, ap, subst}
use Rattle.mg_base.specs.Disk.{Meaning}
use Rattle.mg_base.specs.Image.{Image}
use Rattle.mg_base.specs.declared.geometry.Geometry.{Geometry}
use Rattle.mg_base.specs.declared.numbers.RecId.{RecId}
use Rattle.mg_chain.specs.Chains.{newest_link}
use Rattle.mg_heap.specs.Growth.{AddsOrders, orders_to}
use Rattle.mg_image.specs.Form.{Pages, Row}
use Rattle.mg_model.specs.declared.table.Table.{Table}
use Rattle.mg_pool.specs.Batch.{Changed}
use Rattle.mg_pool.specs.declared.pool.Pool.{Pool}
use Rattle.mg_space.specs.View.{KeepsStore, Tells, viewed}
use Rattle.mg_version.specs.declared.cell.Link.{Link}
use Rattle.mg_table_batch.specs.Filling.{PutsNaming, PutsRow, page_of_version}
use Rattle.mg_table_batch.proofs.SeenLemmas.{seen_before}

-- the orders come to the page where the version stands, by what was read of its slot
pub naming_by : {D L : Type 0} (m : Meaning D) (a b : Pool D L) (image : Image) (catalog : Table) (t : ℕ)
    (old put new : Changed) (row : Row) (page : ℕ) (at : RecId) (link : Option Link) (g : Geometry) (later : ℕ)
    → g ≡ a.geometry → KeepsStore m a b → Tells m a.disk image → PutsRow a image catalog t old put row at
    → ((image : Image) → Tells m b.disk image → link ≡ newest_link (viewed b image put) at)
    → later ≡ page_of_version at link → AddsOrders put new (orders_to g.size page later)
    → PutsNaming a image catalog t old new row page
naming_by m a b image catalog t old put new row page at link g later same keeps tells puts seen is adds = record {
  at = at;
  put = put;
  puts = puts;
  ordered = subst (λ (k : ℕ). AddsOrders put new (orders_to a.geometry.size page k))
      (is ∙ ap (page_of_version at) link_is)
      (subst (λ (h : Geometry). AddsOrders put new (orders_to h.size page later)) same adds);
}
  where
    link_is : link ≡ newest_link (viewed a image put) at
    link_is = seen_before m a b image put keeps tells (λ (pages : Pages). link ≡ newest_link pages at) seen
