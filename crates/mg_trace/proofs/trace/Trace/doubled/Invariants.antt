use Rattle.std.proofs.Common.{take}
use Rattle.std.specs.List.{flat_map}
use Rattle.mg_value.specs.Values.{doubled}
use Rattle.mg_trace.specs.Putting.{Puts}
use Rattle.mg_trace.proofs.trace.Trace.doubled.Given as goal

abbrev pub invariant-loop-byte : goal.invariant-loop-byte
invariant-loop-byte l = Puts l.initial.self l.self (flat_map doubled (take l.byte-index l.text))
