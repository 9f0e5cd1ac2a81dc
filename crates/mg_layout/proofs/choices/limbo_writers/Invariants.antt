use Rattle.std.proofs.Common.{ℕ, List, length}
use Rattle.mg_image.specs.Tables.{Has}
use Rattle.mg_reading.specs.Found.{image_facts}
use Rattle.mg_layout.specs.Choices.{HasWriters}
use Rattle.mg_layout.proofs.choices.limbo_writers.Given as goal

abbrev pub invariant-loop-first : goal.invariant-loop-first
invariant-loop-first l = (ns : List ℕ) → ((t : ℕ) → Has l.writers.items t → Has ns t)
    → HasWriters (image_facts l.image) ns l.rest → HasWriters (image_facts l.image) ns l.found

abbrev pub decreases-loop-first : goal.decreases-loop-first
decreases-loop-first l = length l.rest
