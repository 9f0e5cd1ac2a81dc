use Rattle.std.proofs.Common.{take}
use Rattle.std.specs.List.{flat_map}
use Rattle.mg_trace.specs.Openings.{limbo_line}
use Rattle.mg_trace.specs.Putting.{Puts}
use Rattle.mg_trace.proofs.opening.put_limbo.Given as goal

abbrev pub invariant-loop-change : goal.invariant-loop-change
invariant-loop-change l = Puts l.initial.trace l.trace (flat_map limbo_line (take l.change-index l.changes))
