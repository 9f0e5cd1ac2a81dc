-- Words for small histories of the table KV, and for what the machine answers in them.
use Rattle.std.specs.Prelude.{◌≡◌, ℕ, pos, Bool, true, false, List, [], ◌∷◌, None, codes, map, reverse}
use Rattle.mg_value.specs.declared.value.Value.TheVariants.{Int}
use Rattle.mg_model.specs.declared.answer.Answer.{Answer}
use Rattle.mg_model.specs.declared.answer.Answer.TheVariants.{Fine, Tx}
use Rattle.mg_model.specs.declared.event.Event.{Event}
use Rattle.mg_model.specs.declared.event.Event.TheVariants.{Begin, Look, Find, Insert, Change, Erase, Mark, UndoMark, Savepoint, BackTo, Commit, Rollback}
use Rattle.mg_model.specs.declared.event.Mode.{Mode}
use Rattle.mg_model.specs.declared.opening.Opening.{Opening}
use Rattle.mg_model.specs.Changes.{Cells}
use Rattle.mg_model.specs.History.{Entries, entry}
use Rattle.mg_model.specs.Answers.{answer, number}
use Rattle.mg_model.specs.NewDatabase.{new_opening, kv_name}

-- a history that goes on by these events, each with the machine's answer
abbrev pub run : Opening → Entries → List Event → Entries
run o h [] = h
run o h (e ∷ es) = run o (entry e (answer o h e) ∷ h) es

-- the answers to these events on a new database, the first one first, up to a last number
abbrev pub answers_below : ℕ → List Event → List Answer
answers_below limit events = reverse (map (λ e. e.answer) (run (new_opening limit 0) [] events))

abbrev pub answers : List Event → List Answer
answers events = answers_below 100 events

abbrev pub mode : Bool → Bool → Mode
mode wait snapshot = record { read_only = false; wait = wait; snapshot = snapshot }

-- a transaction begins: one that waits, one that doesn't, and one that reads what is committed
abbrev pub begins : Event
begins = Begin 0 (mode true true)

abbrev pub begins_no_wait : Event
begins_no_wait = Begin 0 (mode false true)

abbrev pub begins_committed : Event
begins_committed = Begin 0 (mode true false)

abbrev pub begins_read_only : Event
begins_read_only = Begin 0 (record { read_only = true; wait = true; snapshot = true })

abbrev pub row : ℕ → ℕ → Cells
row k v = Int (pos k) ∷ Int (pos v) ∷ []

abbrev pub inserts : ℕ → ℕ → ℕ → Event
inserts t k v = Insert (number t) kv_name (row k v)

abbrev pub gives : ℕ → ℕ → ℕ → Event
gives t k v = Change (number t) kv_name (Int (pos k)) (row k v)

abbrev pub erases : ℕ → ℕ → Event
erases t k = Erase (number t) kv_name (Int (pos k))

-- all rows are read
abbrev pub reads : ℕ → Event
reads t = Find (number t) kv_name None

abbrev pub looks : ℕ → Event
looks t = Look (number t)

abbrev pub commits : ℕ → Event
commits t = Commit (number t)

abbrev pub rolls_back : ℕ → Event
rolls_back t = Rollback (number t)

-- a point is set, and all since it is taken back
abbrev pub marks : ℕ → Event
marks t = Mark (number t)

abbrev pub undoes : ℕ → Event
undoes t = UndoMark (number t)

abbrev pub saves : ℕ → Event
saves t = Savepoint (number t) (codes "S")

abbrev pub goes_back : ℕ → Event
goes_back t = BackTo (number t) (codes "S")

-- the transaction 1 inserts the row 1 with the value 10 and commits it
abbrev pub first : List Event → List Event
first events = begins ∷ inserts 1 1 10 ∷ commits 1 ∷ events

-- these events are answered so, once the row 1 was made
abbrev pub AreAnswered : List Event → List Answer → Type 0
AreAnswered events said = answers (first events) ≡ Tx (number 1) ∷ Fine ∷ Fine ∷ said
