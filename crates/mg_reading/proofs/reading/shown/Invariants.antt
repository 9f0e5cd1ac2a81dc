use Rattle.std.proofs.Common.{◌≡◌, length}
use Rattle.mg_reading.specs.Found.{committed_of}
use Rattle.mg_image.specs.Records.{shown}
use Rattle.mg_reading.proofs.reading.shown.Given as goal

abbrev pub invariant-loop-entry : goal.invariant-loop-entry
invariant-loop-entry l = shown (committed_of l.image) l.rest ≡ shown (committed_of l.image) l.entries

abbrev pub decreases-loop-entry : goal.decreases-loop-entry
decreases-loop-entry l = length l.rest
