-- The lines of a script that was read can be obeyed.
use Rattle.std.specs.Prelude.{ℕ, suc, List, [], ◌∷◌, All}
use Rattle.std.proofs.Common.{arith}
use Rattle.std.proofs.lemmas.List.Elements.{All-cons}
use Rattle.std.specs.Str.Lines.{lines as lines_in}
use Rattle.mg_script.specs.declared.line.Line.{Line}
use Rattle.mg_script.specs.declared.line.LineKind.{LineKind}
use Rattle.mg_script.specs.declared.line.LineKind.TheVariants as kinds
use Rattle.mg_script.specs.Lines.{AreLines, IsLine, IsScript}
use Rattle.mg_scripts.specs.Runs.{CanBeObeyed}

-- one line, by what it asks for
line_obeyable : (text : List ℕ) (number : ℕ) (kind : LineKind) → IsLine text kind
    → CanBeObeyed (record { number = number; kind = kind })
line_obeyable text number (kinds.Sql session sql) is = is.lettered
line_obeyable text number (kinds.Held session sql) is = (is.lettered, is.held)
line_obeyable text number (kinds.Step session most) is = (is.lettered, is.some)
line_obeyable text number (kinds.Go session) is = is.lettered
line_obeyable text number (kinds.Write most) is = tt
line_obeyable text number kinds.Collect is = tt
line_obeyable text number (kinds.Sweep most) is = tt
line_obeyable text number (kinds.Prepare session) is = tt
line_obeyable text number (kinds.Put key value) is = tt
line_obeyable text number (kinds.Get key) is = tt
line_obeyable text number kinds.Silent is = tt
line_obeyable text number kinds.Bad is = tt

lines_obeyable : (n : ℕ) (texts : List (List ℕ)) (lines : List Line) → AreLines n texts lines
    → All CanBeObeyed lines
lines_obeyable n [] [] are = λ k d below. absurd (omega (arith, below))
lines_obeyable n [] (line ∷ more) are = absurd are
lines_obeyable n (text ∷ texts) [] are = absurd are
lines_obeyable n (text ∷ texts) (line ∷ more) are =
    All-cons CanBeObeyed line more (line_obeyable text line.number line.kind are.1) (lines_obeyable (suc n) texts more are.2)

-- so it is of the whole script
abbrev pub ScriptsCanBeObeyed : Type 0
ScriptsCanBeObeyed = (text : List ℕ) (lines : List Line) → IsScript text lines → All CanBeObeyed lines

pub scripts_can_be_obeyed : ScriptsCanBeObeyed
scripts_can_be_obeyed text lines is = lines_obeyable 1 (lines_in text) lines is
