use Rattle.std.proofs.Common.{◌≡◌, ◌++◌, length}
use Rattle.mg_image.specs.Tables.{tree_pages}
use Rattle.mg_layout.proofs.linked.add_trees.Given as goal

abbrev pub invariant-loop-levels : goal.invariant-loop-levels
invariant-loop-levels l =
    l.pages.items ++ tree_pages l.rest ≡ l.initial.pages.items ++ tree_pages l.trees

abbrev pub decreases-loop-levels : goal.decreases-loop-levels
decreases-loop-levels l = length l.rest
