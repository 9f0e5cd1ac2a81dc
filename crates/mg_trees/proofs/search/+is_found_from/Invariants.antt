use Rattle.std.proofs.Common.{length}
use Rattle.mg_trees.proofs.search.+is_found_from.Given as goal

abbrev pub decreases-is_found_from : goal.decreases-is_found_from
decreases-is_found_from l = length l.below.now
