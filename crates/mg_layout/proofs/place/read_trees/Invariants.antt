use Rattle.std.proofs.Common.{length}
use Rattle.mg_reading.specs.ImageView.{pages_in}
use Rattle.mg_layout.proofs.PlaceLemmas.{AreRead}
use Rattle.mg_layout.proofs.place.read_trees.Given as goal

abbrev pub invariant-loop-index : goal.invariant-loop-index
invariant-loop-index l =
    AreRead l.image.size (pages_in l.image) l.owner l.indexes l.rest l.trees.items

abbrev pub decreases-loop-index : goal.decreases-loop-index
decreases-loop-index l = length l.rest
