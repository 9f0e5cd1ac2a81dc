use Rattle.std.proofs.Common.{◌≡◌, length}
use Rattle.mg_trees.specs.Searches.{last_child}
use Rattle.mg_trees.proofs.search.child_for.Given as goal

abbrev pub invariant-loop-next : goal.invariant-loop-next
invariant-loop-next l = last_child l.entry l.child l.rest ≡ last_child l.entry 0 l.entries

abbrev pub decreases-loop-next : goal.decreases-loop-next
decreases-loop-next l = length l.rest
