-- The values that the program has.
use Rattle.std.specs.Prelude.{◌<◌, ◌^◌, List, [], ◌∷◌, length, FitsSigned}
use Rattle.std.specs.Int.{w64}
use Rattle.mg_value.specs.declared.value.Value.{Value}
use Rattle.mg_value.specs.declared.value.Value.TheVariants.{Null, Int, Text}

-- a value as the program has them: a number of 64 bits, and a text whose length is one of 16 bits
abbrev pub IsStorable : Value → Type 0
IsStorable Null = Unit {0}
IsStorable (Int number) = FitsSigned w64 number
IsStorable (Text text) = length text < 2 ^ 16

-- each of these values is one
abbrev pub AreStorable : List Value → Type 0
AreStorable [] = Unit {0}
AreStorable (value ∷ values) = IsStorable value × AreStorable values
