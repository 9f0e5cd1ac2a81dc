-- What follows of lines.
use Rattle.std.specs.Prelude.{◌≡◌, ℕ, List}
use Rattle.mg_script.specs.declared.line.LineKind.{LineKind}
use Rattle.mg_script.specs.Lines.{IsLine}

-- a line is of one form, and says one thing
abbrev pub LinesSayOneThing : Type 0
LinesSayOneThing = (text : List ℕ) (a b : LineKind) → IsLine text a → IsLine text b → a ≡ b
