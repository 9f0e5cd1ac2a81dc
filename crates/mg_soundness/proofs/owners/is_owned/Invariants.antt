use Rattle.std.proofs.Common.{length}
use Rattle.std.specs.Prelude.{◌↔◌}
use Rattle.mg_image.specs.RecordRules.{Each}
use Rattle.mg_reading.specs.Found.{EachFound}
use Rattle.mg_soundness.specs.OwnRule.{IsOwn}
use Rattle.mg_soundness.proofs.owners.is_owned.Given as goal

abbrev pub invariant-loop-first : goal.invariant-loop-first
invariant-loop-first l = EachFound (Each (IsOwn l.image l.catalog l.name)) l.found
    ↔ EachFound (Each (IsOwn l.image l.catalog l.name)) l.rest

abbrev pub decreases-loop-first : goal.decreases-loop-first
decreases-loop-first l = length l.rest
