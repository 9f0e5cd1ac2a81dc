-- The printed text of events with their answers, and of a history.
use Rattle.std.specs.Prelude.{ℕ, List, [], ◌∷◌, ◌++◌, codes, decimal, if◌then◌else◌}
use Rattle.std.specs.List.{flat_map}
use Rattle.mg_value.specs.Values.{printed}
use Rattle.mg_model.specs.declared.answer.Answer.{Answer}
use Rattle.mg_model.specs.declared.answer.Answer.TheVariants.{Fine, Tx, Rows, No}
use Rattle.mg_model.specs.declared.event.Event.{Event}
use Rattle.mg_model.specs.declared.event.Event.TheVariants.{Begin, Look, Find, Claim, Insert, Change, Erase, Mark, UndoMark, Savepoint, BackTo, Prepare, Commit, Rollback, Decide}
use Rattle.mg_model.specs.declared.event.Mode.{Mode}
use Rattle.mg_model.specs.Changes.{Cells}
use Rattle.mg_model.specs.History.{Entry, Entries}
use Rattle.mg_script.specs.Texts.{refusal_text}
use Rattle.mg_script.specs.Transcript.{joined}
use Rattle.mg_trace.specs.Trees.{filter_text}

-- how a transaction runs
abbrev pub mode_text : Mode → List ℕ
mode_text mode = (if mode.read_only then codes "RO" else codes "RW")
    ++ ((if mode.wait then codes " WAIT" else codes " NOWAIT")
    ++ (if mode.snapshot then codes " SNAPSHOT" else codes " RC"))

-- a row: its values in parentheses
abbrev pub row_text : Cells → List ℕ
row_text row = codes "(" ++ (joined row ++ codes ")")

-- a word and a transaction; and a name behind them
abbrev pub by_text : List ℕ → ℕ → List ℕ
by_text word t = word ++ decimal t

abbrev pub named_text : List ℕ → ℕ → List ℕ → List ℕ
named_text word t name = by_text word t ++ (codes " " ++ name)

-- an event: its variant in capitals, and its parts in their order
abbrev pub event_text : Event → List ℕ
event_text (Begin session mode) = by_text (codes "BEGIN ") session ++ (codes " " ++ mode_text mode)
event_text (Look t) = by_text (codes "LOOK ") t.0
event_text (Find t table filter) = named_text (codes "FIND ") t.0 table ++ (codes " " ++ filter_text filter)
event_text (Claim t table) = named_text (codes "CLAIM ") t.0 table
event_text (Insert t table row) = named_text (codes "INSERT ") t.0 table ++ (codes " " ++ row_text row)
event_text (Change t table key row) =
    named_text (codes "CHANGE ") t.0 table ++ (codes " " ++ (printed key ++ (codes " " ++ row_text row)))
event_text (Erase t table key) = named_text (codes "ERASE ") t.0 table ++ (codes " " ++ printed key)
event_text (Mark t) = by_text (codes "MARK ") t.0
event_text (UndoMark t) = by_text (codes "UNDOMARK ") t.0
event_text (Savepoint t name) = named_text (codes "SAVEPOINT ") t.0 name
event_text (BackTo t name) = named_text (codes "BACKTO ") t.0 name
event_text (Prepare t) = by_text (codes "PREPARE ") t.0
event_text (Commit t) = by_text (codes "COMMIT ") t.0
event_text (Rollback t) = by_text (codes "ROLLBACK ") t.0
event_text (Decide t commit) = by_text (codes "DECIDE ") t.0 ++ (if commit then codes " COMMIT" else codes " ROLLBACK")

-- rows one after another, each behind a blank
abbrev pub spaced_row : Cells → List ℕ
spaced_row row = codes " " ++ row_text row

-- an answer
abbrev pub answer_text : Answer → List ℕ
answer_text Fine = codes "FINE"
answer_text (Tx t) = codes "TX " ++ decimal t.0
answer_text (Rows rows) = codes "ROWS" ++ flat_map spaced_row rows
answer_text (No refusal) = refusal_text refusal

-- an answer behind its event, with the end of the line
abbrev pub end_text : Answer → List ℕ
end_text answer = codes " -> " ++ (answer_text answer ++ codes "\n")

-- the line of an entry
abbrev pub line_text : Entry → List ℕ
line_text e = event_text e.event ++ end_text e.answer

-- a history: the lines of its entries, the oldest first
abbrev pub history_text : Entries → List ℕ
history_text [] = []
history_text (e ∷ h) = history_text h ++ line_text e
