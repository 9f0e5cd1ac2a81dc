-- The answer lines of faults that are printed without memory: those whose texts have no numbers.
use Rattle.std.specs.Prelude.{◌++◌, ℕ, List, [], ◌∷◌, codes, Option, None, Some, if◌then◌else◌}
use Rattle.mg_rows.specs.declared.statement_fault.StatementFault.TheVariants.{Engine}
use Rattle.mg_run_ends.specs.Ends.{has_fixed_line}
use Rattle.mg_script.specs.declared.line.Line.{Line}
use Rattle.mg_script.specs.declared.line.LineKind.{LineKind}
use Rattle.mg_script.specs.declared.line.LineKind.TheVariants as kinds
use Rattle.mg_script.specs.declared.line.Session.{Session}
use Rattle.mg_script.specs.declared.reply.Reply.{Reply}
use Rattle.mg_script.specs.declared.reply.Reply.TheVariants.{No}
use Rattle.mg_script.specs.Lines.{letter}
use Rattle.mg_script.specs.Texts.{refusal_text}
use Rattle.mg_transcript.specs.declared.turn.Spoken.{Spoken}

-- the answer line of a fault of the disk, or of want of memory, behind what stands before its text; of another answer
-- nothing
abbrev pub fault_line : List ℕ → Reply → List ℕ
fault_line head (No (Engine refusal)) =
    if has_fixed_line refusal then head ++ (refusal_text refusal ++ (10 ∷ [])) else []
fault_line head reply = []

-- what stands before the answers of a session
abbrev pub session_head : Session → List ℕ
session_head session = letter session ∷ codes ": "

-- The line of a line's own answer. A silent line prints nothing, and a bad one its number.
abbrev pub own_fault : LineKind → Reply → List ℕ
own_fault (kinds.Sql session text) reply = fault_line (session_head session) reply
own_fault (kinds.Held session text) reply = fault_line (session_head session) reply
own_fault (kinds.Step session most) reply = fault_line (session_head session) reply
own_fault (kinds.Go session) reply = fault_line (session_head session) reply
own_fault (kinds.Write most) reply = fault_line (codes "@write: ") reply
own_fault kinds.Collect reply = fault_line (codes "@collect: ") reply
own_fault (kinds.Sweep most) reply = fault_line (codes "@sweep: ") reply
own_fault (kinds.Prepare session) reply = fault_line (codes "@prepare: ") reply
own_fault (kinds.Put key value) reply = fault_line (codes "@put: ") reply
own_fault (kinds.Get key) reply = fault_line (codes "@get: ") reply
own_fault kinds.Silent reply = []
own_fault kinds.Bad reply = []

-- the line of a statement that went on, if one did; else this one
abbrev pub spoken_fault : List ℕ → Option Spoken → List ℕ
spoken_fault before None = before
spoken_fault before (Some spoken) = fault_line (session_head spoken.session) spoken.reply

-- the line of the statement that went on last
abbrev pub last_fault : List ℕ → List Spoken → List ℕ
last_fault before [] = before
last_fault before (spoken ∷ more) = last_fault (spoken_fault before (Some spoken)) more

-- the line of the answer that came last at a line
abbrev pub fault_said : Line → Reply → List Spoken → List ℕ
fault_said line reply released = last_fault (own_fault line.kind reply) released
