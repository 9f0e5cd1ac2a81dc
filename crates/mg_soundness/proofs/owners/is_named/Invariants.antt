use Rattle.std.proofs.Common.{length}
use Rattle.std.specs.Prelude.{◌↔◌}
use Rattle.mg_soundness.specs.OwnRule.{ShowsTable, SomeFound}
use Rattle.mg_soundness.proofs.owners.is_named.Given as goal

abbrev pub invariant-loop-found : goal.invariant-loop-found
invariant-loop-found l = SomeFound (ShowsTable l.image l.name) l.catalog
    ↔ SomeFound (ShowsTable l.image l.name) l.rest

abbrev pub decreases-loop-found : goal.decreases-loop-found
decreases-loop-found l = length l.rest
