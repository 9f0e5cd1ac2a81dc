-- What is promised of key bytes.
use Rattle.std.specs.Prelude.{◌≡◌, ℕ, ◌≤◌, List, ◌++◌, length, FitsSigned}
use Rattle.std.specs.Int.{w64}
use Rattle.std.specs.Ordering.{nat_cmp}
use Rattle.std.specs.Cmp.Lexicographic.{slice_cmp}
use Rattle.mg_value.specs.declared.shape.Kind.{Kind}
use Rattle.mg_value.specs.declared.value.Value.{Value}
use Rattle.mg_value.specs.declared.value.Value.TheVariants.{Null, Int, Text}
use Rattle.mg_value.specs.Rows.{FitsKind}
use Rattle.mg_value.specs.Values.{value_cmp}
use Rattle.mg_sortkey.specs.KeyBytes.{key_bytes, most_key_bytes}

-- a number has 64 bits
abbrev pub HasRange : Value → Type 0
HasRange Null = Unit {0}
HasRange (Int number) = FitsSigned w64 number
HasRange (Text text) = Unit {0}

-- key bytes order as values do: NULL first, numbers as numbers, texts by their bytes
abbrev pub KeysOrderAsValues : Type 0
KeysOrderAsValues = (a b : Value) → HasRange a → HasRange b
    → slice_cmp nat_cmp (key_bytes a) (key_bytes b) ≡ value_cmp a b

-- equal key bytes come from equal values alone
abbrev pub KeysTellValues : Type 0
KeysTellValues = (a b : Value) → HasRange a → HasRange b → key_bytes a ≡ key_bytes b → a ≡ b

-- the key bytes of no value are a prefix of another's: whatever follows them, a list begins with
-- the key bytes of one value alone, and the rest is what follows
abbrev pub NoKeyIsPrefix : Type 0
NoKeyIsPrefix = (a b : Value) (more rest : List ℕ) → HasRange a → HasRange b
    → key_bytes a ++ more ≡ key_bytes b ++ rest → (a ≡ b) × (more ≡ rest)

-- a value of a kind has no more key bytes than the most
abbrev pub KeysAreShort : Type 0
KeysAreShort = (kind : Kind) (value : Value) → FitsKind kind value
    → length (key_bytes value) ≤ most_key_bytes kind
