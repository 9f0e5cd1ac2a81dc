-- A history: where it begins, and the events since then with their answers.
use Rattle.std.specs.Prelude.{ℕ, Bool, true, false, List, Option, Some, None}
use Rattle.mg_base.specs.declared.transaction.TxState.{TxState}
use Rattle.mg_base.specs.declared.transaction.TxState.TheVariants.{Limbo, Dead, Committed}
use Rattle.mg_value.specs.declared.value.Value.{Value}
use Rattle.mg_model.specs.declared.answer.Answer.{Answer}
use Rattle.mg_model.specs.declared.answer.Answer.TheVariants.{Fine, Tx, Rows, No}
use Rattle.mg_model.specs.declared.event.Event.{Event}
use Rattle.mg_model.specs.declared.event.Event.TheVariants.{Begin, Look, Find, Claim, Insert, Change, Erase, Mark, UndoMark, Savepoint, BackTo, Prepare, Commit, Rollback, Decide}
use Rattle.mg_model.specs.declared.event.Mode.{Mode}
use Rattle.mg_model.specs.Changes.{Cells}
pub use Rattle.mg_model.specs.declared.change.Point.{Point}
pub use Rattle.mg_model.specs.declared.change.Point.TheVariants.{LastMark, SavepointNamed}

-- an event with its answer
pub record Entry : Type 0 where
  pub event : Event
  pub answer : Answer

-- the entries of a history, the newest first: what it was before its newest entry is the rest
abbrev pub Entries : Type 0
Entries = List Entry

abbrev pub entry : Event → Answer → Entry
entry event answer = record { event = event; answer = answer }

-- the transaction whose event it is; one that begins has no number yet
abbrev pub transaction_of : Event → Option ℕ
transaction_of (Begin session mode) = None
transaction_of (Look t) = Some t.0
transaction_of (Find t table filter) = Some t.0
transaction_of (Claim t table) = Some t.0
transaction_of (Insert t table row) = Some t.0
transaction_of (Change t table key row) = Some t.0
transaction_of (Erase t table key) = Some t.0
transaction_of (Mark t) = Some t.0
transaction_of (UndoMark t) = Some t.0
transaction_of (Savepoint t name) = Some t.0
transaction_of (BackTo t name) = Some t.0
transaction_of (Prepare t) = Some t.0
transaction_of (Commit t) = Some t.0
transaction_of (Rollback t) = Some t.0
transaction_of (Decide t commit) = Some t.0

-- what an entry does
pub data Effect : Type 0 where
  -- a transaction begins
  Begins : ℕ → Mode → Effect
  -- a statement of it begins
  Looks : ℕ → Effect
  -- it makes a row in a table
  Makes : ℕ → List ℕ → Cells → Effect
  -- it gives a key of a table another row, or none
  Gives : ℕ → List ℕ → Value → Option Cells → Effect
  -- it sets a mark; it sets a savepoint of a name
  Marks : ℕ → Effect
  Saves : ℕ → List ℕ → Effect
  -- it takes back all since a point
  TakesBack : ℕ → Point → Effect
  -- it comes to limbo, or to its end
  Ends : ℕ → TxState → Effect
  -- nothing comes of it
  Nothing : Effect

-- the end that a decision gives
abbrev pub decided : Bool → TxState
decided true = Committed
decided false = Dead

-- what an event does where it takes effect, and is no transaction's beginning
abbrev pub deed_of : Event → Effect
deed_of (Begin session mode) = Nothing
deed_of (Look t) = Looks t.0
deed_of (Find t table filter) = Nothing
deed_of (Claim t table) = Nothing
deed_of (Insert t table row) = Makes t.0 table row
deed_of (Change t table key row) = Gives t.0 table key (Some row)
deed_of (Erase t table key) = Gives t.0 table key None
deed_of (Mark t) = Marks t.0
deed_of (UndoMark t) = TakesBack t.0 LastMark
deed_of (Savepoint t name) = Saves t.0 name
deed_of (BackTo t name) = TakesBack t.0 (SavepointNamed name)
deed_of (Prepare t) = Ends t.0 Limbo
deed_of (Commit t) = Ends t.0 Committed
deed_of (Rollback t) = Ends t.0 Dead
deed_of (Decide t commit) = Ends t.0 (decided commit)

-- what a transaction's beginning does, if the event is one
abbrev pub beginning_of : Event → ℕ → Effect
beginning_of (Begin session mode) t = Begins t mode
beginning_of (Look u) t = Nothing
beginning_of (Find u table filter) t = Nothing
beginning_of (Claim u table) t = Nothing
beginning_of (Insert u table row) t = Nothing
beginning_of (Change u table key row) t = Nothing
beginning_of (Erase u table key) t = Nothing
beginning_of (Mark u) t = Nothing
beginning_of (UndoMark u) t = Nothing
beginning_of (Savepoint u name) t = Nothing
beginning_of (BackTo u name) t = Nothing
beginning_of (Prepare u) t = Nothing
beginning_of (Commit u) t = Nothing
beginning_of (Rollback u) t = Nothing
beginning_of (Decide u commit) t = Nothing

-- what an event does with an answer: one that was refused does nothing
abbrev pub effect_with : Event → Answer → Effect
effect_with event Fine = deed_of event
effect_with event (Tx t) = beginning_of event t.0
effect_with event (Rows rows) = Nothing
effect_with event (No refusal) = Nothing

abbrev pub effect_of : Entry → Effect
effect_of e = effect_with e.event e.answer
