use Rattle.std.proofs.Common.{◌≡◌, ◌++◌}
use Rattle.mg_reading.specs.ImageView.{pages_in}
use Rattle.mg_image.specs.Reached.{tips_below, tips_of}
use Rattle.mg_layout.proofs.linked.add_tips.Given as goal

abbrev pub invariant-loop-count : goal.invariant-loop-count
invariant-loop-count l =
    l.pages.items ++ tips_below l.image.size (pages_in l.image) l.count
    ≡ l.initial.pages.items ++ tips_of l.image.size (pages_in l.image)

abbrev pub decreases-loop-count : goal.decreases-loop-count
decreases-loop-count l = l.count
