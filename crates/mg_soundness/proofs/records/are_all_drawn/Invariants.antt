use Rattle.std.proofs.Common.{length}
use Rattle.std.specs.Prelude.{◌↔◌}
use Rattle.mg_reading.specs.Found.{image_facts, reading_of}
use Rattle.mg_reading.specs.RecordParts.{AreDrawn}
use Rattle.mg_soundness.specs.Joined.{AreSettled, EachRead, founds_in}
use Rattle.mg_soundness.proofs.records.are_all_drawn.Given as goal

abbrev pub invariant-loop-table : goal.invariant-loop-table
invariant-loop-table l = record {
  settled : EachRead AreSettled (founds_in l.rest);
  same : EachRead (λ found. AreDrawn (image_facts l.image) (reading_of found)) (founds_in l.records)
      ↔ EachRead (λ found. AreDrawn (image_facts l.image) (reading_of found)) (founds_in l.rest);
}

abbrev pub decreases-loop-table : goal.decreases-loop-table
decreases-loop-table l = length l.rest
