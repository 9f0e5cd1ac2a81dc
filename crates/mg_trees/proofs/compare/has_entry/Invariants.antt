use Rattle.std.proofs.Common.{length}
use Rattle.std.specs.Prelude.{◌↔◌}
use Rattle.mg_image.specs.Indexes.{HasEntry}
use Rattle.mg_trees.proofs.compare.has_entry.Given as goal

abbrev pub invariant-loop-first : goal.invariant-loop-first
invariant-loop-first l = HasEntry l.entries l.entry ↔ HasEntry l.rest l.entry

abbrev pub decreases-loop-first : goal.decreases-loop-first
decreases-loop-first l = length l.rest
