use Rattle.std.proofs.Common.{length}
use Rattle.std.specs.Prelude.{◌↔◌}
use Rattle.mg_image.specs.Tables.{Has}
use Rattle.mg_heap.proofs.table.has_number.Given as goal

abbrev pub invariant-loop-m : goal.invariant-loop-m
invariant-loop-m l = Has l.numbers l.n ↔ Has l.rest l.n

abbrev pub decreases-loop-m : goal.decreases-loop-m
decreases-loop-m l = length l.rest
