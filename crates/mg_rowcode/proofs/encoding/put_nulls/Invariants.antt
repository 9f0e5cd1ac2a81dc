use Rattle.std.proofs.Common.{◌≡◌, ◌++◌, length, map}
use Rattle.mg_value.specs.Rows.{bytes_of_bits, is_null}
use Rattle.mg_rowcode.proofs.encoding.put_nulls.Given as goal

-- with the bits of the rest the bits are complete
abbrev pub invariant-loop-rest : goal.invariant-loop-rest
invariant-loop-rest l = l.out.items ++ bytes_of_bits (map is_null l.rest) ≡ l.initial.out.items ++ bytes_of_bits (map is_null l.values)

abbrev pub decreases-loop-rest : goal.decreases-loop-rest
decreases-loop-rest l = length l.rest
