use Rattle.std.proofs.Common.{take}
use Rattle.std.specs.List.{flat_map}
use Rattle.mg_trace.specs.Putting.{Puts}
use Rattle.mg_trace.specs.Text.{spaced_row}
use Rattle.mg_trace.proofs.answer.put_rows.Given as goal

abbrev pub invariant-loop-row : goal.invariant-loop-row
invariant-loop-row l = Puts l.initial.trace l.trace (flat_map spaced_row (take l.row-index l.rows))
