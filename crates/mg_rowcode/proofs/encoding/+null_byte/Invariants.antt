use Rattle.std.proofs.Common.{length}
use Rattle.mg_rowcode.proofs.encoding.+null_byte.Given as goal

abbrev pub decreases-null_byte : goal.decreases-null_byte
decreases-null_byte l = length l.values.now
