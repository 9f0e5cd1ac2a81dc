use Rattle.std.proofs.Common.{length}
use Rattle.std.specs.Prelude.{◌↔◌}
use Rattle.mg_layout.specs.Standing.{stands_in}
use Rattle.mg_soundness.specs.Joined.{EachTable, founds_in}
use Rattle.mg_soundness.specs.OwnRule.{IsOwned}
use Rattle.mg_soundness.proofs.owners.are_owned.Given as goal

abbrev pub invariant-loop-stand : goal.invariant-loop-stand
invariant-loop-stand l = EachTable (IsOwned l.image l.catalog) (stands_in l.stands)
    (founds_in l.records) ↔ EachTable (IsOwned l.image l.catalog) (stands_in l.rest)
    (founds_in l.left)

abbrev pub decreases-loop-stand : goal.decreases-loop-stand
decreases-loop-stand l = length l.rest
