use Rattle.std.proofs.Common.{length}
use Rattle.std.specs.Prelude.{◌↔◌}
use Rattle.mg_reading.specs.Found.{HaveKeys, image_facts}
use Rattle.mg_reading.proofs.pairs.have_keys.Given as goal

abbrev pub invariant-loop-first : goal.invariant-loop-first
invariant-loop-first l = HaveKeys (image_facts l.image) l.table l.found
    ↔ HaveKeys (image_facts l.image) l.table l.rest

abbrev pub decreases-loop-first : goal.decreases-loop-first
decreases-loop-first l = length l.rest
