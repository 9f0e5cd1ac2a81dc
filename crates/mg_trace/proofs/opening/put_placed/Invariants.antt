use Rattle.std.proofs.Common.{take}
use Rattle.std.specs.List.{flat_map}
use Rattle.mg_trace.specs.Openings.{row_line}
use Rattle.mg_trace.specs.Putting.{Puts}
use Rattle.mg_trace.proofs.opening.put_placed.Given as goal

abbrev pub invariant-loop-placed : goal.invariant-loop-placed
invariant-loop-placed l = Puts l.initial.trace l.trace (flat_map row_line (take l.placed-index l.rows))
