-- The scripts of sessions that obey them at once.
use Rattle.std.specs.Prelude.{◌≡◌, ◌==◌, ◌+◌, ℕ, zero, suc, List, [], ◌∷◌, Option, Some, None, if◌then◌else◌}
use Rattle.std.specs.List.{slice_get}
use Rattle.mg_script.specs.declared.line.Line.{Line}
use Rattle.mg_script.specs.declared.line.LineKind.{LineKind}
use Rattle.mg_script.specs.declared.line.LineKind.TheVariants as kinds
use Rattle.mg_interleavings.specs.Standings.{Scripts, script_of}

-- a line that a session obeys: a statement of its own, or one that prints nothing
abbrev pub IsOwnLine : ℕ → LineKind → Type 0
IsOwnLine s (kinds.Sql session text) = session.0 ≡ s
IsOwnLine s kinds.Silent = Unit {0}
IsOwnLine s kind = ⊥

-- each script has lines of its session alone
abbrev pub AreOwnLines : Scripts → Type 0
AreOwnLines scripts = (s place : ℕ) (line : Line) → slice_get (script_of scripts s) place ≡ Some line
    → IsOwnLine s line.kind

-- ---- a script of several sessions is cut

-- a line, where it is a statement of this session
abbrev pub own_by : ℕ → LineKind → Line → Option Line
own_by s (kinds.Sql session text) line = if session.0 == s then Some line else None
own_by s kind line = None

abbrev pub own_line : ℕ → Line → Option Line
own_line s line = own_by s line.kind line

abbrev pub before : Option Line → List Line → List Line
before None lines = lines
before (Some line) lines = line ∷ lines

-- the statements of a session among some lines, in their order
abbrev pub own_of : ℕ → List Line → List Line
own_of s [] = []
own_of s (line ∷ lines) = before (own_line s line) (own_of s lines)

-- those of so many sessions from one on
abbrev pub cut_from : ℕ → ℕ → List Line → Scripts
cut_from zero s lines = []
cut_from (suc n) s lines = own_of s lines ∷ cut_from n (s + 1) lines
