-- Texts that the program does not have.
use Rattle.std.specs.Prelude.{◌≤◌, ◌⊎◌, ◌^◌, List, [], ◌∷◌, length}
use Rattle.mg_value.specs.declared.value.Value.{Value}
use Rattle.mg_value.specs.declared.value.Value.TheVariants.{Null, Int, Text}

-- a text longer than any column allows
abbrev pub IsLongText : Value → Type 0
IsLongText Null = ⊥
IsLongText (Int number) = ⊥
IsLongText (Text text) = 2 ^ 16 ≤ length text

-- one of these values is such a text
abbrev pub HasLongText : List Value → Type 0
HasLongText [] = ⊥
HasLongText (value ∷ values) = IsLongText value ⊎ HasLongText values
