-- What a statement gives of events, and what it comes to.
use Rattle.std.specs.Prelude.{◌≡◌, ℕ, ◌&&◌, Bool, true, false, List, [], ◌∷◌, ◌++◌, length, Option, Some, None, Result, Ok, Err, cond}
use Rattle.mg_base.specs.declared.numbers.TxNo.{TxNo}
use Rattle.mg_expr.specs.declared.fault.EvalFault.{EvalFault}
use Rattle.mg_statements.specs.declared.statement.Def.{Def}
use Rattle.mg_statements.specs.Plain.{Plain, plain_of, RollbackTo, Savepoint, Table as Creation, Insert, Update, Delete, Totals, Select}
use Rattle.mg_plan.specs.declared.bound.Bound.{Bound}
use Rattle.mg_plan.specs.Refusing.{first_refusal, IsBoundAs}
use Rattle.mg_plan.specs.Shapes.{shape_of}
use Rattle.mg_model.specs.declared.answer.Answer.TheVariants.{Fine, No, Rows}
use Rattle.mg_model.specs.declared.change.Point.TheVariants.{SavepointNamed}
use Rattle.mg_model.specs.declared.event.Event.{Event}
use Rattle.mg_model.specs.declared.event.Event.TheVariants as events
use Rattle.mg_model.specs.declared.opening.Opening.{Opening}
use Rattle.mg_model.specs.declared.refusal.Refusal.{Refusal}
use Rattle.mg_model.specs.declared.refusal.Refusal.TheVariants.{Waits}
use Rattle.mg_model.specs.declared.table.Table.{Table}
use Rattle.mg_model.specs.Answers.{is_active}
use Rattle.mg_model.specs.Changes.{Cells}
use Rattle.mg_model.specs.Effects.{is_its}
use Rattle.mg_model.specs.History.{Entries, Entry, entry}
use Rattle.mg_model.specs.Machine.{state_of, steps, has_point, is_of}
use Rattle.mg_faults.specs.Faults.{worse}
use Rattle.mg_records.specs.declared.write.Write.{Write}
use Rattle.mg_records.specs.Adding.{IsRefused}
use Rattle.mg_records.specs.Meaning.{Means}
use Rattle.mg_records.specs.Reading.{shape_seen}
use Rattle.mg_records.specs.TakingBack.{is_given_up}
use Rattle.mg_records.specs.Writing.{event_of, rows_made}
use Rattle.mg_value.specs.declared.shape.Shape.{Shape}
use Rattle.mg_rows.specs.declared.fault.NewRowFault.{NewRowFault}
use Rattle.mg_rows.specs.declared.outcome.Outcome.TheVariants as outcomes
use Rattle.mg_rows.specs.declared.statement_fault.StatementFault.{StatementFault}
use Rattle.mg_rows.specs.declared.statement_fault.StatementFault.TheVariants.{Engine, Arithmetic, NoSavepoint}
use Rattle.mg_rows.specs.Faults.{of_new_row}
use Rattle.mg_exec.specs.declared.phase.Phase.{Phase}
use Rattle.mg_exec.specs.declared.phase.Phase.TheVariants as phases
use Rattle.mg_exec.specs.declared.phase.Step.{Step}
use Rattle.mg_exec.specs.declared.phase.Step.TheVariants.{More, Done}
use Rattle.mg_exec.specs.declared.phase.Turn.{Turn}
use Rattle.mg_exec.specs.Making.{MakesNone, writes_made}
use Rattle.mg_calls.specs.Frames.{Frames}
use Rattle.mg_calls.specs.Quiet.{IsQuietly}
use Rattle.mg_calls.specs.Tables.{AreInserted, AreLawful}
use Rattle.mg_calls.specs.Undoing.{is_waiting}
use Rattle.mg_exec.specs.NewTables.{is_taken}
use Rattle.mg_exec.specs.Phases.{HasRead, IsReady, is_insert, is_over, may_not_write}
use Rattle.mg_exec.specs.Reading.{find_of, rows_found}
use Rattle.mg_rows.specs.Answering.{Answers}
use Rattle.mg_exec.specs.Selecting.{answer_told}

-- A statement that a transaction is to run: whether it may not write, and the page size.
pub record Asked : Type 0 where
  pub t : TxNo
  pub read_only : Bool
  pub statement : Plain
  pub size : ℕ

-- the table that it names
abbrev pub table_named : Plain → List ℕ
table_named (Creation name columns) = name
table_named (Insert table columns values) = table
table_named (Update table sets filter) = table
table_named (Delete table filter) = table
table_named (Totals table totals filter) = table
table_named (Select table values filter sorted) = table
table_named s = []

-- It may write, if it does, and is bound to the table that its transaction saw when it had looked.
pub record IsBoundTo (o : Opening) (looked : Entries) (a : Asked) (table : Table) (bound : Bound)
    : Type 0 where
  pub may : may_not_write a.read_only a.statement ≡ false
  pub named : table.name ≡ table_named a.statement
  pub seen : shape_seen o looked a.t.0 table.name ≡ Some table.shape
  pub passes : first_refusal table.shape.columns table.shape.key a.size a.statement ≡ None
  pub binds : IsBoundAs table.shape.columns a.statement bound

-- It makes this table, which it may: nothing refuses it, and its transaction saw none of the name when
-- it had looked.
pub record IsToMake (o : Opening) (looked : Entries) (a : Asked) (name : List ℕ) (shape : Shape)
    : Type 0 where
  pub columns : List Def
  pub statement : a.statement ≡ Creation name columns
  pub may : may_not_write a.read_only a.statement ≡ false
  pub free : is_taken name (shape_seen o looked a.t.0 name) ≡ false
  pub passes : first_refusal [] 0 a.size a.statement ≡ None
  pub shaped : shape ≡ shape_of columns

-- ---- its entries, the newest first

-- its `Look`; and the `Find` behind it, where it finds rows
abbrev pub its_look : Asked → Entries
its_look a = entry (events.Look a.t) Fine ∷ []

abbrev pub its_find : Asked → Table → Bound → List Cells → Entries
its_find a table bound rows = entry (find_of a.t table bound) (Rows rows) ∷ its_look a

-- those before its mark: an INSERT finds no rows
abbrev pub before_mark : Asked → Table → Bound → List Cells → Entries
before_mark a table bound rows = cond (is_insert a.statement) (its_look a) (its_find a table bound rows)

-- It has set its mark, and of the writes that it makes these are left. A write that waited is tried
-- again.
pub data HasWritten (t : TxNo) (table : List ℕ) (before : Entries) (made : List Write)
    : List Write → Entries → Type 0 where
  marked : HasWritten t table before made made (entry (events.Mark t) Fine ∷ before)
  wrote : (first : Write) (left : List Write) (given : Entries)
      → HasWritten t table before made (first ∷ left) given
      → HasWritten t table before made left (entry (event_of t table first) Fine ∷ given)
  waited : (first : Write) (left : List Write) (given : Entries) (on : TxNo)
      → HasWritten t table before made (first ∷ left) given
      → HasWritten t table before made (first ∷ left) (entry (event_of t table first) (No (Waits on)) ∷ given)

-- A statement that has all its rows makes its writes of them, one after another: these are left, of so
-- many.
pub record IsWriting (a : Asked) (table : Table) (bound : Bound) (left : List Write) (count : ℕ)
    (given : Entries) : Type 0 where
  pub rows : List Cells
  pub made : List Write
  pub makes : writes_made table bound rows ≡ Ok made
  pub counts : count ≡ length made
  pub written : HasWritten a.t table.name (before_mark a table bound rows) made left given

-- CREATE TABLE has set its mark, and tried to make its table: each time a row of it waited. A try begins
-- with the first of the rows.
pub data HasTried (t : TxNo) (rows : List Cells) (before : Entries) : Entries → Type 0 where
  mark_set : HasTried t rows before (entry (events.Mark t) Fine ∷ before)
  tried : {given more : Entries} (on : TxNo) → HasTried t rows before given
      → AreInserted t rows (Some (Waits on)) more → HasTried t rows before (more ++ given)

-- an event was to take the transaction back and was refused; the transaction is rolled back then, if the
-- refusal is one of those that give it up
abbrev pub entries_given_up : Bool → TxNo → Event → Refusal → Entries
entries_given_up gives_up t event refusal =
    cond gives_up (entry (events.Rollback t) Fine ∷ entry event (No refusal) ∷ [])
    (entry event (No refusal) ∷ [])

abbrev pub does_give_up : Opening → Entries → TxNo → Refusal → Bool
does_give_up o h t refusal = is_given_up refusal && is_active (state_of o h t.0)

-- A statement whose write was refused is undone by these entries, and this is answered.
pub data IsUndoneBy (o : Opening) (h : Entries) (t : TxNo) (first : Refusal) (answer : Refusal)
    (undoing : Entries) : Type 0 where
  taken_back_so : answer ≡ first → undoing ≡ entry (events.UndoMark t) Fine ∷ []
      → IsUndoneBy o h t first answer undoing
  given_up_so : (later : Refusal) → answer ≡ worse first later
      → undoing ≡ entries_given_up (does_give_up o h t later) t (events.UndoMark t) later
      → IsUndoneBy o h t first answer undoing

-- ---- what it comes to

-- A statement has given these entries and comes to this answer. The history was `looked` when it had
-- looked, and is h now.
pub data ComesTo (o : Opening) (looked h : Entries) (a : Asked) (given : Entries)
    (answer : Result Step StatementFault) : Type 0 where
  -- SAVEPOINT
  saved : (name : List ℕ) → a.statement ≡ Savepoint name
      → given ≡ entry (events.Savepoint a.t name) Fine ∷ [] → answer ≡ Ok (Done outcomes.Fine)
      → ComesTo o looked h a given answer
  not_saved : (name : List ℕ) (refusal : Refusal) → a.statement ≡ Savepoint name
      → given ≡ entry (events.Savepoint a.t name) (No refusal) ∷ [] → answer ≡ Err (Engine refusal)
      → ComesTo o looked h a given answer
  -- ROLLBACK TO
  returned : (name : List ℕ) → a.statement ≡ RollbackTo name
      → given ≡ entry (events.BackTo a.t name) Fine ∷ [] → answer ≡ Ok (Done outcomes.Fine)
      → ComesTo o looked h a given answer
  no_savepoint : (name : List ℕ) → a.statement ≡ RollbackTo name
      → has_point a.t.0 (SavepointNamed name) (steps o h) ≡ false → given ≡ []
      → answer ≡ Err NoSavepoint → ComesTo o looked h a given answer
  not_returned : (name : List ℕ) (refusal : Refusal) (before : Entries) → a.statement ≡ RollbackTo name
      → h ≡ given ++ before
      → given ≡ entries_given_up (does_give_up o before a.t refusal) a.t (events.BackTo a.t name) refusal
      → answer ≡ Err (Engine refusal) → ComesTo o looked h a given answer
  -- the reading is refused; the filter faults on a row; what was found can't be told
  stopped : (table : Table) (bound : Bound) (refusal : Refusal) → IsBoundTo o looked a table bound
      → IsRefused o h a.t.0 refusal → given ≡ its_look a → answer ≡ Err (Engine refusal)
      → ComesTo o looked h a given answer
  faulted : (table : Table) (bound : Bound) → IsBoundTo o looked a table bound
      → rows_found o h a.t.0 table bound ≡ None → given ≡ its_look a → answer ≡ Err Arithmetic
      → ComesTo o looked h a given answer
  not_found : (table : Table) (bound : Bound) (refusal : Refusal) → IsBoundTo o looked a table bound
      → given ≡ entry (find_of a.t table bound) (No refusal) ∷ its_look a → answer ≡ Err (Engine refusal)
      → ComesTo o looked h a given answer
  -- a SELECT answers by the rows that it found
  selected : (table : Table) (bound : Bound) (rows : List Cells) (told : Result (List Cells) EvalFault)
      → IsBoundTo o looked a table bound → given ≡ its_find a table bound rows
      → Answers (plain_of bound.statement) bound.places.items table.shape.key rows told
      → answer ≡ answer_told told → ComesTo o looked h a given answer
  -- the rows can't be made; the mark is refused; all is written; or a write is refused, and all since the
  -- mark is undone
  none_made : (table : Table) (bound : Bound) (rows : List Cells) (fault : NewRowFault)
      → IsBoundTo o looked a table bound → given ≡ before_mark a table bound rows
      → MakesNone (writes_made table bound rows) fault → answer ≡ Err (of_new_row fault)
      → ComesTo o looked h a given answer
  not_marked : (table : Table) (bound : Bound) (rows : List Cells) (made : List Write) (refusal : Refusal)
      → IsBoundTo o looked a table bound → writes_made table bound rows ≡ Ok made
      → given ≡ entry (events.Mark a.t) (No refusal) ∷ before_mark a table bound rows
      → answer ≡ Err (Engine refusal) → ComesTo o looked h a given answer
  written : (table : Table) (bound : Bound) (count : ℕ) → IsBoundTo o looked a table bound
      → IsWriting a table bound [] count given → answer ≡ Ok (Done (outcomes.Count count))
      → ComesTo o looked h a given answer
  undone : (table : Table) (bound : Bound) (first : Write) (left : List Write) (count : ℕ)
      (wrote undoing before : Entries) (refusal last : Refusal) → IsBoundTo o looked a table bound
      → IsWriting a table bound (first ∷ left) count wrote → is_waiting refusal ≡ false
      → h ≡ undoing ++ before → IsUndoneBy o before a.t refusal last undoing
      → given ≡ undoing ++ entry (event_of a.t table.name first) (No refusal) ∷ wrote
      → answer ≡ Err (Engine last) → ComesTo o looked h a given answer
  -- CREATE TABLE: its mark is refused; all rows came that say its table; or one is refused, and all since
  -- the mark is undone
  no_mark : (name : List ℕ) (shape : Shape) (refusal : Refusal) → IsToMake o looked a name shape
      → given ≡ entry (events.Mark a.t) (No refusal) ∷ its_look a → answer ≡ Err (Engine refusal)
      → ComesTo o looked h a given answer
  created : (name : List ℕ) (shape : Shape) (before more : Entries) → IsToMake o looked a name shape
      → HasTried a.t (rows_made name shape) (its_look a) before
      → AreInserted a.t (rows_made name shape) None more → given ≡ more ++ before
      → answer ≡ Ok (Done outcomes.Fine) → ComesTo o looked h a given answer
  not_created : (name : List ℕ) (shape : Shape) (before more undoing then_ : Entries)
      (refusal last : Refusal) → IsToMake o looked a name shape
      → HasTried a.t (rows_made name shape) (its_look a) before
      → AreInserted a.t (rows_made name shape) (Some refusal) more → is_waiting refusal ≡ false
      → h ≡ undoing ++ then_ → IsUndoneBy o then_ a.t refusal last undoing
      → given ≡ undoing ++ (more ++ before) → answer ≡ Err (Engine last)
      → ComesTo o looked h a given answer

-- ---- where it stands

-- A statement that has given these entries stands here. The history was `looked` when it had looked,
-- and is h now.
abbrev pub IsAt : {R P : Type 0} → Means R P → R → Opening → Entries → Entries → Asked → Entries → Phase P
    → Type 0
IsAt m r o looked h a given (phases.Saving name) = (a.statement ≡ Savepoint name) × (given ≡ [])
IsAt m r o looked h a given (phases.Returning name) = (a.statement ≡ RollbackTo name) × (given ≡ [])
IsAt m r o looked h a given (phases.Inserting i) = (is_insert a.statement ≡ true)
    × IsBoundTo o looked a i.table i.bound × (given ≡ its_look a)
IsAt m r o looked h a given (phases.Reading reading) = (is_insert a.statement ≡ false)
    × IsBoundTo o looked a reading.walk.table reading.bound × (given ≡ its_look a)
    × HasRead m r o h a.t.0 reading
IsAt m r o looked h a given (phases.Changing c) = (bound : Bound)
    × IsBoundTo o looked a c.writes.table bound
    × IsWriting a c.writes.table bound c.writes.left.items c.count given
IsAt m r o looked h a given (phases.Creating table) =
    IsToMake o looked a table.name table.shape × (given ≡ its_look a)
IsAt m r o looked h a given (phases.Retrying table) = IsToMake o looked a table.name table.shape
    × HasTried a.t (rows_made table.name table.shape) (its_look a) given
IsAt m r o looked h a given phases.Ended = ⊥
IsAt m r o looked h a given phases.RolledBack = ⊥

-- a statement that goes on is answered so, where a step gave these entries: there is more to do, or the
-- event that came last waits
abbrev pub LetsGoOn : Entries → Result Step StatementFault → Type 0
LetsGoOn more (Ok More) = Unit {0}
LetsGoOn (e ∷ more) (Err (Engine (Waits on))) = e.answer ≡ No (Waits on)
LetsGoOn more answer = ⊥

-- It stands somewhere, or is at its end and comes to its answer. Where it says that its transaction is
-- rolled back, that is so.
abbrev pub StandsSo : {R P : Type 0} → Means R P → R → Opening → Entries → Entries → Asked → Entries
    → Phase P → Result Step StatementFault → Type 0
StandsSo m r o looked h a given phases.Ended answer = ComesTo o looked h a given answer
StandsSo m r o looked h a given phases.RolledBack answer =
    ComesTo o looked h a given answer × (is_active (state_of o h a.t.0) ≡ false)
StandsSo m r o looked h a given phase answer = IsAt m r o looked h a given phase

-- A step of a statement gives these further entries, and it stands so.
pub record Gives {R P : Type 0} (m : Means R P) (new : R) (o : Opening) (looked h : Entries) (a : Asked)
    (given : Entries) (turn : Turn P) : Type 0 where
  pub more : Entries
  pub lawful : AreLawful o h more
  pub quietly : IsQuietly h (more ++ h)
  pub stands : m.stands new o (more ++ h)
  pub so : StandsSo m new o looked (more ++ h) a (more ++ given) turn.phase turn.answer
  pub goes_on : is_over turn.phase ≡ false → LetsGoOn more turn.answer

-- the `Look` of a statement that looks: one of a table, or CREATE TABLE
abbrev pub look_in : Asked → Plain → Entries
look_in a (Savepoint name) = []
look_in a (RollbackTo name) = []
look_in a s = its_look a

-- Where a statement begins that has looked, if it is one that looks, and was tested: it stands at its first step, and
-- the history is as it was then.
pub record BeginsTested {R P : Type 0} (m : Means R P) (new : R) (o : Opening) (h : Entries) (a : Asked)
    (phase : Phase P) : Type 0 where
  pub stands : m.stands new o h
  pub at : IsAt m new o h h a (look_in a a.statement) phase

-- calls for other transactions leave it where it stands
abbrev pub StatementsGoOn : {R P : Type 0} → Means R P → Type 0
StatementsGoOn {R = R} {P = P} m = (old new : R) (o : Opening) (looked h : Entries) (e : Entry) (u : ℕ)
    (refusal : Option Refusal) (a : Asked) (given : Entries) (phase : Phase P)
    → Frames m old new u refusal → is_of a.t.0 (Some u) ≡ false → is_its a.t.0 e ≡ false
    → IsAt m old o looked h a given phase → IsAt m new o looked (e ∷ h) a given phase

-- and ready for its next step
abbrev pub StatementsStayReady : {R P : Type 0} → Means R P → Type 0
StatementsStayReady {R = R} {P = P} m = (old new : R) (t u : ℕ) (refusal : Option Refusal)
    (phase : Phase P) → Frames m old new u refusal → is_of t (Some u) ≡ false
    → IsReady m old t phase → IsReady m new t phase
