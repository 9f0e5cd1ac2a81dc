use Rattle.std.proofs.Common.{length}
use Rattle.std.specs.Prelude.{◌↔◌}
use Rattle.mg_image.specs.Indexes.{EachPage, IsNode}
use Rattle.mg_reading.specs.ImageView.{pages_in}
use Rattle.mg_trees.specs.Trees.{IsBounded}
use Rattle.mg_trees.proofs.nodes.check_pages.Given as goal

abbrev pub invariant-loop-n : goal.invariant-loop-n
invariant-loop-n l = record {
  bounded : EachPage (IsBounded l.image.size (pages_in l.image) l.owner l.level) l.rest;
  same : EachPage (IsNode l.image.size (pages_in l.image) l.owner l.level l.below) l.pages
      ↔ EachPage (IsNode l.image.size (pages_in l.image) l.owner l.level l.below) l.rest;
}

abbrev pub decreases-loop-n : goal.decreases-loop-n
decreases-loop-n l = length l.rest
