use Rattle.std.proofs.Common.{◌≡◌, ◌++◌, ◌+◌, ◌/◌, ◌≤◌, drop, length}
use Rattle.mg_rowcode.specs.Reading.{flags_of}
use Rattle.mg_rowcode.proofs.decoding.put_flags.Given as goal

-- with the flags of the other columns the flags are complete
abbrev pub invariant-loop-byte : goal.invariant-loop-byte
invariant-loop-byte l = record {
  room : l.byte-index + (length l.rest + 7) / 8 ≤ length l.bytes;
  complete : l.flags.items ++ flags_of l.rest (drop l.byte-index l.bytes) ≡ l.initial.flags.items ++ flags_of l.columns l.bytes;
}
