use Rattle.std.proofs.Common.{length}
use Rattle.std.specs.Prelude.{◌↔◌}
use Rattle.mg_btree.specs.Halves.{HasPlace}
use Rattle.mg_btree.proofs.halves.has_place.Given as goal

abbrev pub invariant-loop-next : goal.invariant-loop-next
invariant-loop-next l = HasPlace l.entries l.e ↔ HasPlace l.rest l.e

abbrev pub decreases-loop-next : goal.decreases-loop-next
decreases-loop-next l = length l.rest
