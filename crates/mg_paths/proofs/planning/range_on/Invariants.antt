use Rattle.std.proofs.Common.{◌≡◌, length, map}
use Rattle.mg_expr.specs.Trees.{tree_of}
use Rattle.mg_paths.specs.Plans.{open_range, range_on}
use Rattle.mg_paths.proofs.planning.range_on.Given as goal

abbrev pub invariant-loop-part : goal.invariant-loop-part
invariant-loop-part l = range_on l.column l.range (map tree_of l.rest) ≡ range_on l.column open_range (map tree_of l.parts)

abbrev pub decreases-loop-part : goal.decreases-loop-part
decreases-loop-part l = length l.rest
