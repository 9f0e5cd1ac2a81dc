use Rattle.std.proofs.Common.{◌≡◌, ◌++◌, drop}
use Rattle.mg_rowcode.specs.Reading.{flags_of_byte}
use Rattle.mg_rowcode.proofs.decoding.put_flags_of_byte.Given as goal

-- with the flags of the other columns the flags are complete
abbrev pub invariant-loop-column : goal.invariant-loop-column
invariant-loop-column l = l.flags.items ++ flags_of_byte (drop l.column-index l.columns) l.bits ≡ l.initial.flags.items ++ flags_of_byte l.columns l.byte
