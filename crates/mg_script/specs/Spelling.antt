-- How numbers stand in a text, and where a byte does.
use Rattle.std.specs.Prelude.{◌≡◌, ◌≢◌, ◌<◌, ℕ, ℤ, List, ◌++◌, length, slice_index, FitsSigned}
use Rattle.std.specs.Int.{w64}
use Rattle.std.specs.Fmt.{signed_decimal}

-- a text spells two numbers of 64 bits with a separator between them
pub record AreSpelled (text separator : List ℕ) (first second : ℤ) : Type 0 where
  pub first_fits : FitsSigned w64 first
  pub second_fits : FitsSigned w64 second
  pub spelled : text ≡ signed_decimal first ++ (separator ++ signed_decimal second)

-- a byte first stands at a place
pub record IsFirst (bytes : List ℕ) (wanted at : ℕ) : Type 0 where
  pub below : at < length bytes
  pub here : slice_index bytes at ≡ wanted
  pub before : (k : ℕ) → k < at → slice_index bytes k ≢ wanted

-- a byte stands at no place
abbrev pub StandsNowhere : List ℕ → ℕ → Type 0
StandsNowhere bytes wanted = (k : ℕ) → k < length bytes → slice_index bytes k ≢ wanted
