use Rattle.std.proofs.Common.{length}
use Rattle.mg_reading.specs.ImageView.{pages_in}
use Rattle.mg_trees.proofs.SearchLemmas.{IsOnWay}
use Rattle.mg_trees.proofs.search.page_for.Given as goal

abbrev pub invariant-loop-n : goal.invariant-loop-n
invariant-loop-n l = IsOnWay (pages_in l.image) l.entry l.pages l.rest

abbrev pub decreases-loop-n : goal.decreases-loop-n
decreases-loop-n l = length l.rest
