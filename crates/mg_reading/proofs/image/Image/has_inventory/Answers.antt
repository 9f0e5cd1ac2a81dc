use Rattle.std.proofs.Common.{ℕ, ap, arith, refl, subst}
use Rattle.mg_image.specs.Inventory.{inventory_page}
use Rattle.mg_image.specs.Sound.{HasRegion}
use Rattle.mg_reading.specs.ImageView.{pages_in}
use Rattle.mg_reading.proofs.EachLemmas.{each_more}
use Rattle.mg_reading.proofs.image.Image.has_inventory.Goals as goal

pub loop-region-init : goal.loop-region-init
loop-region-init c = λ k below. absurd (omega (arith, below))

pub loop-region-preserved : goal.loop-region-preserved
loop-region-preserved c = each_more
    (λ k. HasRegion c.args.self.now.size (pages_in c.args.self.now) (inventory_page c.args.self.now.size k) k)
    c.loop-region.region c.loop-region.invariant
    (subst
    (λ n. HasRegion c.args.self.now.size (pages_in c.args.self.now) n c.loop-region.region)
    (ap (λ size. inventory_page size c.loop-region.region) c.size.ensures.size)
    (c.if-not-has_region.ensures.0 refl))
