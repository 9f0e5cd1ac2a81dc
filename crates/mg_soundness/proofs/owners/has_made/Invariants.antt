use Rattle.std.proofs.Common.{length}
use Rattle.std.specs.Prelude.{◌↔◌}
use Rattle.mg_soundness.specs.OwnRule.{MakesTable, SomeFound}
use Rattle.mg_soundness.proofs.owners.has_made.Given as goal

abbrev pub invariant-loop-found : goal.invariant-loop-found
invariant-loop-found l = SomeFound (MakesTable l.image l.t l.name) l.catalog
    ↔ SomeFound (MakesTable l.image l.t l.name) l.rest

abbrev pub decreases-loop-found : goal.decreases-loop-found
decreases-loop-found l = length l.rest
