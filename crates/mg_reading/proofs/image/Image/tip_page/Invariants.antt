use Rattle.std.proofs.Common.{◌≡◌}
use Rattle.mg_reading.specs.ImageView.{pages_in}
use Rattle.mg_image.specs.Inventory.{header_of, tip_before}
use Rattle.mg_reading.proofs.image.Image.tip_page.Given as goal

-- so many steps back from the last page
abbrev pub invariant-loop : goal.invariant-loop
invariant-loop l =
    l.page ≡ tip_before (pages_in l.self) (header_of (pages_in l.self)).last_tip.0 l.counter
