use Rattle.std.proofs.Common.{length}
use Rattle.std.specs.Prelude.{◌↔◌}
use Rattle.mg_image.specs.RecordRules.{Each}
use Rattle.mg_reading.specs.Found.{image_facts}
use Rattle.mg_reading.specs.RecordParts.{IsDrawn}
use Rattle.mg_reading.proofs.record.are_versions_drawn.Given as goal

abbrev pub invariant-loop-entry : goal.invariant-loop-entry
invariant-loop-entry l = Each (IsDrawn (image_facts l.image)) l.entries
    ↔ Each (IsDrawn (image_facts l.image)) l.rest

abbrev pub decreases-loop-entry : goal.decreases-loop-entry
decreases-loop-entry l = length l.rest
