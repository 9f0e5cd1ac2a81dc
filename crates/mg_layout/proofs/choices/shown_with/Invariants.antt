use Rattle.std.proofs.Common.{◌≡◌, length}
use Rattle.mg_image.specs.Catalog.{committed_with}
use Rattle.mg_image.specs.Records.{shown}
use Rattle.mg_image.specs.Tables.{has}
use Rattle.mg_reading.specs.Found.{image_facts}
use Rattle.mg_layout.proofs.choices.shown_with.Given as goal

abbrev pub invariant-loop-entry : goal.invariant-loop-entry
invariant-loop-entry l =
    shown (committed_with (image_facts l.image) (has l.chosen)) l.entries
    ≡ shown (committed_with (image_facts l.image) (has l.chosen)) l.rest

abbrev pub decreases-loop-entry : goal.decreases-loop-entry
decreases-loop-entry l = length l.rest
