use Rattle.std.proofs.Common.{length}
use Rattle.std.specs.Prelude.{◌↔◌}
use Rattle.mg_image.specs.RecordRules.{Each}
use Rattle.mg_soundness.specs.OwnRule.{IsOwn}
use Rattle.mg_soundness.proofs.owners.are_own.Given as goal

abbrev pub invariant-loop-entry : goal.invariant-loop-entry
invariant-loop-entry l = Each (IsOwn l.image l.catalog l.name) l.entries
    ↔ Each (IsOwn l.image l.catalog l.name) l.rest

abbrev pub decreases-loop-entry : goal.decreases-loop-entry
decreases-loop-entry l = length l.rest
