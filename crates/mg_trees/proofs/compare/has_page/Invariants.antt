use Rattle.std.proofs.Common.{length}
use Rattle.std.specs.Prelude.{◌↔◌}
use Rattle.mg_image.specs.Tables.{Has}
use Rattle.mg_trees.proofs.compare.has_page.Given as goal

abbrev pub invariant-loop-first : goal.invariant-loop-first
invariant-loop-first l = Has l.pages l.n ↔ Has l.rest l.n

abbrev pub decreases-loop-first : goal.decreases-loop-first
decreases-loop-first l = length l.rest
