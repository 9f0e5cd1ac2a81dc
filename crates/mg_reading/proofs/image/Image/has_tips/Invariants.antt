use Rattle.std.proofs.Common.{ℕ, ◌<◌}
use Rattle.mg_tip.specs.TipPage.{tip_checks}
use Rattle.mg_reading.specs.ImageView.{pages_in}
use Rattle.mg_image.specs.Inventory.{tip_page}
use Rattle.mg_image.specs.Reached.{IsAsWanted}
use Rattle.mg_reading.proofs.image.Image.has_tips.Given as goal

abbrev pub invariant-loop-sequence : goal.invariant-loop-sequence
invariant-loop-sequence l = (k : ℕ) → k < l.sequence
    → IsAsWanted l.self.size (pages_in l.self) (tip_page l.self.size (pages_in l.self) k)
    (tip_checks (pages_in l.self (tip_page l.self.size (pages_in l.self) k))
    (tip_page l.self.size (pages_in l.self) k) k)
