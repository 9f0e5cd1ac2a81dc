use Rattle.std.proofs.Common.{◌≡◌, length}
use Rattle.mg_trees.specs.Searches.{pages_from}
use Rattle.mg_trees.proofs.search.from_page.Given as goal

abbrev pub invariant-loop-first : goal.invariant-loop-first
invariant-loop-first l = pages_from l.n l.rest ≡ pages_from l.n l.pages

abbrev pub decreases-loop-first : goal.decreases-loop-first
decreases-loop-first l = length l.rest
