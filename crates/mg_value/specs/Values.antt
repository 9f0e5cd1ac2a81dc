-- The order of values, and their printed text.
use Rattle.std.specs.Prelude.{◌≡◌, ℕ, ℤ, pos, List, [], ◌∷◌, ◌++◌, length, take, codes, ◌==◌, if◌then◌else◌, Option, Some, None}
use Rattle.std.specs.List.{flat_map}
use Rattle.std.specs.Fmt.{signed_decimal}
use Rattle.std.specs.Ordering.{nat_cmp, int_cmp, ordering_then}
use Rattle.std.specs.Cmp.Lexicographic.{slice_cmp}
use Rattle.std.specs.declared.cmp.Ordering.{Ordering}
use Rattle.mg_value.specs.declared.value.Value.{Value}
use Rattle.mg_value.specs.declared.value.Value.TheVariants.{Null, Int, Text}

-- the place of a value's kind among the kinds
abbrev pub kind_of : Value → ℕ
kind_of Null = 0
kind_of (Int number) = 1
kind_of (Text text) = 2

-- the number that a value is, 0 where it is none
abbrev pub number_of : Value → ℤ
number_of Null = pos 0
number_of (Int number) = number
number_of (Text text) = pos 0

-- the bytes of a text, none where a value is none
abbrev pub bytes_of : Value → List ℕ
bytes_of Null = []
bytes_of (Int number) = []
bytes_of (Text text) = text

-- the order of values: by kind, NULL least; numbers as numbers, and texts by their bytes
abbrev pub value_cmp : Value → Value → Ordering
value_cmp a b =
    ordering_then (nat_cmp (kind_of a) (kind_of b))
    (ordering_then (int_cmp (number_of a) (number_of b)) (slice_cmp nat_cmp (bytes_of a) (bytes_of b)))

-- what comparing two values in an expression gives: unknown with NULL, else their order
abbrev pub comparison : Value → Value → Option Ordering
comparison Null b = None
comparison (Int number) Null = None
comparison (Text text) Null = None
comparison (Int number) (Int other) = Some (value_cmp (Int number) (Int other))
comparison (Int number) (Text other) = Some (value_cmp (Int number) (Text other))
comparison (Text text) (Int other) = Some (value_cmp (Text text) (Int other))
comparison (Text text) (Text other) = Some (value_cmp (Text text) (Text other))

-- a quote in a text prints twice
abbrev pub doubled : ℕ → List ℕ
doubled byte = if byte == 39 then 39 ∷ 39 ∷ [] else byte ∷ []

-- a text as it prints
abbrev pub quoted : List ℕ → List ℕ
quoted text = 39 ∷ flat_map doubled text ++ 39 ∷ []

-- a value as it prints
abbrev pub printed : Value → List ℕ
printed Null = codes "NULL"
printed (Int number) = signed_decimal number
printed (Text text) = quoted text

-- the list has grown at its end, if it has changed
abbrev pub KeepsFront : List ℕ → List ℕ → Type 0
KeepsFront old new = take (length old) new ≡ old
