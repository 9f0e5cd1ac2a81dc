use Rattle.std.proofs.Common.{length}
use Rattle.std.specs.Prelude.{◌↔◌}
use Rattle.mg_reading.specs.Found.{EachFound, image_facts}
use Rattle.mg_reading.specs.RecordParts.{AreBacksCommitted}
use Rattle.mg_reading.proofs.parts.are_backs_committed.Given as goal

abbrev pub invariant-loop-first : goal.invariant-loop-first
invariant-loop-first l = EachFound (AreBacksCommitted (image_facts l.image)) l.found ↔ EachFound (AreBacksCommitted (image_facts l.image)) l.rest

abbrev pub decreases-loop-first : goal.decreases-loop-first
decreases-loop-first l = length l.rest
