-- A sum that grows row by row.
use Rattle.std.specs.Prelude.{ℕ, ◌*◌, ◌^◌, ◌≤◌, ℤ, ◌+ℤ◌, Option, Some, None}
use Rattle.std.specs.Int.RustNames.{unsigned_abs}
use Rattle.mg_value.specs.declared.value.Value.{Value}
use Rattle.mg_value.specs.declared.value.Value.TheVariants.{Null, Int, Text}

-- a sum of so many numbers of 64 bits
abbrev pub Holds : ℕ → Option ℤ → Type 0
Holds count None = Unit {0}
Holds count (Some sum) = unsigned_abs sum ≤ count * 2 ^ 63

-- the sum with one more number
abbrev pub with_number : Option ℤ → ℤ → ℤ
with_number None n = n
with_number (Some sum) n = sum +ℤ n

-- the sum so far with one more value
abbrev pub added_up : Option ℤ → Value → Option ℤ
added_up sum Null = sum
added_up sum (Int n) = Some (with_number sum n)
added_up sum (Text text) = sum
