use Rattle.std.proofs.Common.{ℕ, ◌<◌}
use Rattle.mg_reading.specs.ImageView.{pages_in}
use Rattle.mg_image.specs.Inventory.{inventory_page}
use Rattle.mg_image.specs.Sound.{HasRegion}
use Rattle.mg_reading.proofs.image.Image.has_inventory.Given as goal

abbrev pub invariant-loop-region : goal.invariant-loop-region
invariant-loop-region l = (k : ℕ) → k < l.region
    → HasRegion l.self.size (pages_in l.self) (inventory_page l.self.size k) k
