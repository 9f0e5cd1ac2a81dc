-- What is printed of a line, by what it is answered.
use Rattle.std.specs.Prelude.{◌<◌, ℕ, List, [], ◌∷◌, ◌++◌, codes, decimal, length}
use Rattle.std.specs.List.{flat_map}
use Rattle.mg_value.specs.Values.{printed}
use Rattle.mg_value.specs.declared.value.Value.{Value}
use Rattle.mg_rows.specs.declared.outcome.Outcome.TheVariants as outcomes
use Rattle.mg_rows.specs.declared.statement_fault.StatementFault.TheVariants.{NothingHeld}
use Rattle.mg_script.specs.declared.line.Line.{Line}
use Rattle.mg_script.specs.declared.line.LineKind.{LineKind}
use Rattle.mg_script.specs.declared.line.LineKind.TheVariants as kinds
use Rattle.mg_script.specs.declared.line.Session.{Session}
use Rattle.mg_script.specs.declared.reply.Reply.{Reply}
use Rattle.mg_script.specs.declared.reply.Reply.TheVariants.{Ok, Tx, No, Held, Bad}
use Rattle.mg_script.specs.declared.line.TheConstants.{SESSIONS}
use Rattle.mg_script.specs.Lines.{letter}
use Rattle.mg_script.specs.Texts.{fault_text}

-- the values of a row, with a comma and a blank between neighbours
abbrev pub joined : List Value → List ℕ
joined [] = []
joined (v ∷ []) = printed v
joined (v ∷ w ∷ more) = printed v ++ (codes ", " ++ joined (w ∷ more))

-- the line of a row that a session's statement found
abbrev pub row_line : Session → List Value → List ℕ
row_line session row = letter session ∷ (codes "| " ++ (joined row ++ (10 ∷ [])))

-- the text of a reply, without its rows
abbrev pub reply_text : Reply → List ℕ
reply_text (Ok outcomes.Fine) = codes "OK"
reply_text (Ok (outcomes.Count n)) = codes "OK " ++ decimal n
reply_text (Ok (outcomes.Rows rows)) = codes "OK " ++ decimal (length rows)
reply_text (Tx t) = codes "OK TX " ++ decimal t.0
reply_text (No fault) = fault_text fault
reply_text Held = codes "HELD"
reply_text Bad = codes "BAD LINE"

-- the rows of a reply
abbrev pub rows_in : Reply → List (List Value)
rows_in (Ok (outcomes.Rows rows)) = rows
rows_in reply = []

-- the answer of a session: the lines of the rows, and the answer line
abbrev pub said : Session → Reply → List ℕ
said session reply = flat_map (row_line session) (rows_in reply)
    ++ (letter session ∷ (codes ": " ++ (reply_text reply ++ (10 ∷ []))))

-- the answer line of a word
abbrev pub worded : List ℕ → Reply → List ℕ
worded word reply = word ++ (codes ": " ++ (reply_text reply ++ (10 ∷ [])))

-- the answer of a held statement that was to go on: the session's, but where it holds none
abbrev pub gone_on : List ℕ → Session → Reply → List ℕ
gone_on word session (No NothingHeld) = worded word (No NothingHeld)
gone_on word session reply = said session reply

-- the values of the row that was found, or that there is none
abbrev pub got_row : List (List Value) → List ℕ
got_row [] = codes "@get: " ++ (codes "NONE" ++ (10 ∷ []))
got_row (row ∷ more) = codes "@get: " ++ (joined row ++ (10 ∷ []))

-- the answer to a reading of one value
abbrev pub got : Reply → List ℕ
got (Ok (outcomes.Rows rows)) = got_row rows
got reply = worded (codes "@get") reply

-- the session of a line has a letter
abbrev pub HasLetter : LineKind → Type 0
HasLetter (kinds.Sql session text) = session.0 < SESSIONS
HasLetter (kinds.Held session text) = session.0 < SESSIONS
HasLetter (kinds.Step session most) = session.0 < SESSIONS
HasLetter (kinds.Go session) = session.0 < SESSIONS
HasLetter kind = Unit {0}

-- what is printed of a line
abbrev pub printed_of : ℕ → LineKind → Reply → List ℕ
printed_of number (kinds.Sql session text) reply = said session reply
printed_of number (kinds.Held session text) reply = said session reply
printed_of number (kinds.Step session most) reply = gone_on (codes "@step") session reply
printed_of number (kinds.Go session) reply = gone_on (codes "@go") session reply
printed_of number (kinds.Write most) reply = worded (codes "@write") reply
printed_of number kinds.Collect reply = worded (codes "@collect") reply
printed_of number (kinds.Sweep most) reply = worded (codes "@sweep") reply
printed_of number (kinds.Prepare session) reply = worded (codes "@prepare") reply
printed_of number (kinds.Put key value) reply = worded (codes "@put") reply
printed_of number (kinds.Get key) reply = got reply
printed_of number kinds.Silent reply = []
printed_of number kinds.Bad reply = codes "line " ++ decimal number ++ (codes ": BAD LINE" ++ (10 ∷ []))
