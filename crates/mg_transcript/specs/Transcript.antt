-- What a script prints, by what was answered at its lines, and whether all was answered Ok.
use Rattle.std.specs.Prelude.{ℕ, ◌<◌, ◌&&◌, Bool, true, false, List, [], ◌∷◌, ◌++◌, if◌then◌else◌}
use Rattle.std.specs.List.{flat_map, list_all}
use Rattle.mg_model.specs.declared.refusal.Refusal.TheVariants as refusals
use Rattle.mg_rows.specs.declared.statement_fault.StatementFault.TheVariants.{Engine}
use Rattle.mg_script.specs.declared.line.Line.{Line}
use Rattle.mg_script.specs.declared.line.TheConstants.{SESSIONS}
use Rattle.mg_script.specs.declared.reply.Reply.{Reply}
use Rattle.mg_script.specs.declared.reply.Reply.TheVariants as replies
use Rattle.mg_script.specs.Transcript.{printed_of, said}
use Rattle.mg_transcript.specs.declared.turn.Flow.{Flow}
use Rattle.mg_transcript.specs.declared.turn.Flow.TheVariants.{GoesOn, Stops}
use Rattle.mg_transcript.specs.declared.turn.Spoken.{Spoken}
use Rattle.mg_transcript.specs.Sessions.{Unfinished}
use Rattle.mg_transcript.specs.Shorthand.{stops_run}
use Rattle.mg_transcript.specs.Scripts.{Obeyed}

-- ---- what is printed

-- the answer of a statement that went on
abbrev pub spoken_of : Spoken → List ℕ
spoken_of spoken = said spoken.session spoken.reply

-- what is printed at a line: its own answer, and those of the statements that went on at it
abbrev pub turn_of : Line → Reply → List Spoken → List ℕ
turn_of line reply released =
    printed_of line.number line.kind reply ++ flat_map spoken_of released

-- the transcript of the lines that were obeyed
abbrev pub transcript : List Obeyed → List ℕ
transcript turns = flat_map (λ turn. turn_of turn.line turn.reply turn.released) turns

-- the session of such an answer has a letter
abbrev pub HasItsLetter : Spoken → Type 0
HasItsLetter spoken = spoken.session.0 < SESSIONS

-- ---- whether a script goes on

-- behind an answer
abbrev pub flow : Reply → Flow
flow (replies.No (Engine refusal)) = if stops_run refusal then Stops refusal else GoesOn
flow reply = GoesOn

-- ---- whether all was answered Ok

-- an answer is no refusal, or its statement waits: it is answered again when it goes on
abbrev pub fine : Reply → Bool
fine (replies.Ok outcome) = true
fine (replies.Tx t) = true
fine replies.Held = true
fine (replies.No (Engine (refusals.Waits on))) = true
fine (replies.No fault) = false
fine replies.Bad = false

-- so are all answers at a line
abbrev pub turn_fine : Obeyed → Bool
turn_fine turn = fine turn.reply && list_all (λ spoken. fine spoken.reply) turn.released

-- Each line's last answer is Ok: no answer is a refusal, and no statement is held or waits to the end.
abbrev pub all_fine : List Obeyed → List Unfinished → Bool
all_fine turns [] = list_all turn_fine turns
all_fine turns (u ∷ pending) = false
