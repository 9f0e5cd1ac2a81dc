-- What a name is.
use Rattle.std.specs.Prelude.{ℕ, ◌<◌, ◌≤◌, Bool, ◌||◌, ◌&&◌, ◌==◌, nat_le, List, length, map, Contains, IsTrue, slice_index}
use Rattle.std.specs.List.{list_all}
use Rattle.mg_value.specs.declared.name.TheConstants.{MOST_NAME, RESERVED}

-- a capital letter
abbrev pub is_capital : ℕ → Bool
is_capital byte = nat_le 65 byte && nat_le byte 90

-- a byte of a name: a capital letter, a digit, `_` or `$`
abbrev pub is_name_byte : ℕ → Bool
is_name_byte byte = is_capital byte || nat_le 48 byte && nat_le byte 57 || byte == 95 || byte == 36

-- a word of the grammar
abbrev pub IsReserved : List ℕ → Type 0
IsReserved bytes = Contains (map (λ word. word.now) RESERVED) bytes

-- a name in capitals: it begins with a letter, and is no word of the grammar
pub record IsName (bytes : List ℕ) : Type 0 where
  pub some : 0 < length bytes
  pub most : length bytes ≤ MOST_NAME
  pub begins : IsTrue (is_capital (slice_index bytes 0))
  pub each : IsTrue (list_all is_name_byte bytes)
  pub free : IsReserved bytes → ⊥
