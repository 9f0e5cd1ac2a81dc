-- The printed report of sessions that have obeyed their scripts at once.
use Rattle.std.specs.Prelude.{ℕ, Bool, true, false, List, [], ◌∷◌, ◌++◌, ◌+◌, codes, map}
use Rattle.std.specs.declared.alloc.Global.{Global}
use Rattle.std.specs.declared.vec.Vec.{Vec}
use Rattle.std.specs.List.{flat_map}
use Rattle.mg_model.specs.declared.opening.Opening.{Opening}
use Rattle.mg_model.specs.History.{Entries}
use Rattle.mg_script.specs.declared.line.Line.{Line}
use Rattle.mg_script.specs.declared.line.LineKind.{LineKind}
use Rattle.mg_script.specs.declared.line.LineKind.TheVariants as kinds
use Rattle.mg_script.specs.declared.line.Session.{Session}
use Rattle.mg_script.specs.declared.reply.Reply.TheVariants as replies
use Rattle.mg_script.specs.Transcript.{printed_of}
use Rattle.mg_interleavings.specs.declared.answered.Answered.{Answered}
use Rattle.mg_interleavings.specs.Texts.{said_at_once}
use Rattle.mg_trace.specs.Openings.{opening_text}
use Rattle.mg_trace.specs.Text.{history_text}

-- the answers by session
abbrev pub answers_in : List (Vec Answered Global) → List (List Answered)
answers_in vs = map (λ (v : Vec Answered Global). v.items) vs

abbrev pub session_of : ℕ → Session
session_of s = record { 0 = s }

-- ---- bad lines

-- no session obeys a line of this form, and it is none that prints nothing
abbrev pub is_bad : LineKind → Bool
is_bad (kinds.Sql session text) = false
is_bad kinds.Silent = false
is_bad kind = true

-- the text of a line, where it is bad
abbrev pub bad_by : Bool → ℕ → List ℕ
bad_by true number = printed_of number kinds.Bad replies.Bad
bad_by false number = []

abbrev pub bad_text : Line → List ℕ
bad_text line = bad_by (is_bad line.kind) line.number

-- ---- answers

-- what the sessions from one on were answered, one session after another
abbrev pub answers_from : ℕ → List (List Answered) → List ℕ
answers_from s [] = []
answers_from s (own ∷ later) = flat_map (said_at_once (session_of s)) own ++ answers_from (s + 1) later

-- what stands behind the history: the texts of the bad lines, in the order of the script, and the answers, A's first
abbrev pub replies_text : List Line → List (List Answered) → List ℕ
replies_text lines answers = codes "REPLIES\n" ++ (flat_map bad_text lines ++ answers_from 0 answers)

-- ---- the report

-- where the text of the history is this one
abbrev pub report_with : Opening → List ℕ → List Line → List (List Answered) → List ℕ
report_with o history lines answers = opening_text o ++ (history ++ replies_text lines answers)

-- an opening, a history from there on, and what the sessions that made it were answered at the lines of a script
abbrev pub report_text : Opening → Entries → List Line → List (List Answered) → List ℕ
report_text o h lines answers = report_with o (history_text h) lines answers
