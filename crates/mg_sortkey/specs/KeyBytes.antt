-- The key bytes of a value: they order as values do, and none is a prefix of another.
use Rattle.std.specs.Prelude.{ℕ, ◌+◌, ◌*◌, ◌%◌, ◌^◌, ◌==◌, List, [], ◌∷◌, ◌++◌, if◌then◌else◌}
use Rattle.std.specs.List.{flat_map}
use Rattle.std.specs.Int.{w64, cast_unsigned, to_be_bytes}
use Rattle.mg_value.specs.declared.shape.Kind.{Kind}
use Rattle.mg_value.specs.declared.shape.Kind.TheVariants as kinds
use Rattle.mg_value.specs.declared.value.Value.{Value}
use Rattle.mg_value.specs.declared.value.Value.TheVariants.{Null, Int, Text}
use Rattle.mg_sortkey.specs.declared.tags.TheConstants.{NULL_TAG, INT_TAG, TEXT_TAG, ESCAPE}

-- a zero byte of a text is followed by ff, so that two zero bytes end the text
abbrev pub escaped : ℕ → List ℕ
escaped byte = if byte == 0 then 0 ∷ ESCAPE ∷ [] else byte ∷ []

-- the key bytes of a value: a number is highest byte first, with its sign bit turned over
unfoldable pub key_bytes : Value → List ℕ
key_bytes Null = NULL_TAG ∷ []
key_bytes (Int number) =
    INT_TAG ∷ to_be_bytes w64 ((cast_unsigned w64 number + 2 ^ 63) % 2 ^ 64)
key_bytes (Text text) = TEXT_TAG ∷ flat_map escaped text ++ 0 ∷ 0 ∷ []

-- how many key bytes a value of a kind has at most
abbrev pub most_key_bytes : Kind → ℕ
most_key_bytes kinds.Int = 9
most_key_bytes (kinds.Text most) = 2 * most + 3
