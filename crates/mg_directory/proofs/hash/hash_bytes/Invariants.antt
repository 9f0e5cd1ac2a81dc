use Rattle.std.proofs.Common.{◌≡◌, length}
use Rattle.mg_directory.specs.Hashes.{hash_from, hash_of}
use Rattle.mg_directory.proofs.hash.hash_bytes.Given as goal

-- the rest comes to the hash of all
abbrev pub invariant-loop-byte : goal.invariant-loop-byte
invariant-loop-byte l = hash_from l.hash l.rest ≡ hash_of l.bytes

abbrev pub decreases-loop-byte : goal.decreases-loop-byte
decreases-loop-byte l = length l.rest
