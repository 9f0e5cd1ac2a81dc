use Rattle.std.proofs.Common.{length}
use Rattle.std.specs.Prelude.{◌↔◌}
use Rattle.mg_image.specs.Catalog.{StaysAmong}
use Rattle.mg_layout.proofs.tables.stays_among.Given as goal

abbrev pub invariant-loop-other : goal.invariant-loop-other
invariant-loop-other l = StaysAmong l.tables l.table ↔ StaysAmong l.rest l.table

abbrev pub decreases-loop-other : goal.decreases-loop-other
decreases-loop-other l = length l.rest
