use Rattle.std.proofs.Common.{length}
use Rattle.std.specs.Prelude.{◌↔◌}
use Rattle.mg_image.specs.Indexes.{AreChildren}
use Rattle.mg_reading.specs.ImageView.{pages_in}
use Rattle.mg_trees.proofs.nodes.check_later_children.Given as goal

abbrev pub invariant-loop-entry : goal.invariant-loop-entry
invariant-loop-entry l = AreChildren (pages_in l.image) l.below l.entries
    ↔ AreChildren (pages_in l.image) l.below l.rest

abbrev pub decreases-loop-entry : goal.decreases-loop-entry
decreases-loop-entry l = length l.rest
