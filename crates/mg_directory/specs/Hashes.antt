-- The hash of the bytes of a key.
use Rattle.std.specs.Prelude.{ℕ, ◌+◌, ◌*◌, ◌%◌, List, [], ◌∷◌}
use Rattle.mg_directory.specs.declared.hash.TheConstants.{FACTOR, FIRST_HASH}

-- one byte more
abbrev pub mixed : ℕ → ℕ → ℕ
mixed hash byte = (hash * FACTOR + byte) % 4294967296

-- the hash of bytes, after others
abbrev pub hash_from : ℕ → List ℕ → ℕ
hash_from hash [] = hash
hash_from hash (byte ∷ bytes) = hash_from (mixed hash byte) bytes

abbrev pub hash_of : List ℕ → ℕ
hash_of bytes = hash_from FIRST_HASH bytes
