use Rattle.std.proofs.Common.{take}
use Rattle.mg_rowcode.specs.Storable.{AreStorable}
use Rattle.mg_reading.proofs.rows.are_storable.Given as goal

abbrev pub invariant-loop-value : goal.invariant-loop-value
invariant-loop-value l = AreStorable (take l.value-index l.values)
