use Rattle.std.proofs.Common.{length}
use Rattle.std.specs.Prelude.{◌↔◌}
use Rattle.mg_image.specs.Indexes.{IsFoundIn}
use Rattle.mg_reading.specs.ImageView.{pages_in}
use Rattle.mg_trees.specs.Searches.{HasTrees}
use Rattle.mg_trees.proofs.search.is_found_in.Given as goal

abbrev pub invariant-loop-index : goal.invariant-loop-index
invariant-loop-index l = record {
  trees : HasTrees l.image.size (pages_in l.image) l.rest l.others;
  same : IsFoundIn (pages_in l.image) l.indexes l.p l.row
      ↔ IsFoundIn (pages_in l.image) l.rest l.p l.row;
}

abbrev pub decreases-loop-index : goal.decreases-loop-index
decreases-loop-index l = length l.rest
