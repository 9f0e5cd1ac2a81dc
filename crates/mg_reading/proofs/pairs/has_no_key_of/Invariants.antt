use Rattle.std.proofs.Common.{length}
use Rattle.std.specs.Prelude.{◌↔◌}
use Rattle.mg_reading.specs.Found.{HasNoKeyOf, image_facts}
use Rattle.mg_reading.proofs.pairs.has_no_key_of.Given as goal

abbrev pub invariant-loop-other : goal.invariant-loop-other
invariant-loop-other l = HasNoKeyOf (image_facts l.image) l.table l.found l.others
    ↔ HasNoKeyOf (image_facts l.image) l.table l.found l.rest

abbrev pub decreases-loop-other : goal.decreases-loop-other
decreases-loop-other l = length l.rest
