use Rattle.std.proofs.Common.{◌≡◌, ◌++◌, length}
use Rattle.mg_image.specs.Tables.{has}
use Rattle.mg_reading.specs.Found.{image_facts}
use Rattle.mg_layout.specs.Choices.{rows_with}
use Rattle.mg_layout.proofs.choices.shown_rows.Given as goal

abbrev pub invariant-loop-first : goal.invariant-loop-first
invariant-loop-first l = l.rows.items ++ rows_with (image_facts l.image) l.rest (has l.chosen)
    ≡ rows_with (image_facts l.image) l.found (has l.chosen)

abbrev pub decreases-loop-first : goal.decreases-loop-first
decreases-loop-first l = length l.rest
