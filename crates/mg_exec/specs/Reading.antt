-- The steps of a statement that finds rows.
use Rattle.std.specs.Prelude.{◌≡◌, ◌⊎◌, ◌≤◌, ◌+◌, ℕ, length, Bool, false, List, ◌∷◌, map, Option, Some, None, Result, Ok, Err}
use Rattle.mg_base.specs.declared.numbers.TxNo.{TxNo}
use Rattle.mg_value.specs.declared.value.Value.{Value}
use Rattle.mg_expr.specs.declared.fault.EvalFault.{EvalFault}
use Rattle.mg_statements.specs.Plain.{tree_in, plain_of}
use Rattle.mg_plan.specs.declared.bound.Bound.{Bound}
use Rattle.mg_model.specs.declared.answer.Answer.TheVariants.{No, Rows}
use Rattle.mg_model.specs.declared.event.Event.{Event}
use Rattle.mg_model.specs.declared.event.Event.TheVariants.{Find}
use Rattle.mg_model.specs.declared.opening.Opening.{Opening}
use Rattle.mg_model.specs.declared.refusal.Refusal.{Refusal}
use Rattle.mg_model.specs.declared.refusal.Refusal.TheVariants as refusals
use Rattle.mg_model.specs.declared.table.Table.{Table}
use Rattle.mg_model.specs.Changes.{Cells, KeyedRows}
use Rattle.mg_model.specs.History.{Entries, entry}
use Rattle.mg_model.specs.Answers.{answer}
use Rattle.mg_model.specs.Legal.{IsLawful}
use Rattle.mg_records.specs.Adding.{IsRefused}
use Rattle.mg_records.specs.Meaning.{Means}
use Rattle.mg_rows.specs.declared.statement_fault.StatementFault.{StatementFault}
use Rattle.mg_rows.specs.declared.statement_fault.StatementFault.TheVariants.{Engine, Arithmetic}
use Rattle.mg_rows.specs.Found.{found, passes_filter, Keeps}
use Rattle.mg_rows.specs.Orders.{AreSorted, keyed_cmp}
use Rattle.mg_calls.specs.Walks.{rows_seen}
use Rattle.mg_calls.specs.Writes.{Comes}
use Rattle.mg_exec.specs.declared.phase.Reading.{Reading}
use Rattle.mg_exec.specs.declared.phase.Phase.{Phase}
use Rattle.mg_exec.specs.declared.phase.Phase.TheVariants as phases
use Rattle.mg_exec.specs.declared.phase.Step.{Step}
use Rattle.mg_exec.specs.declared.phase.Step.TheVariants.{More}
use Rattle.mg_exec.specs.declared.phase.Turn.{Turn}
use Rattle.mg_exec.specs.Changing.{StartsToWrite}
use Rattle.mg_plan.specs.Plans.{filter_in}
use Rattle.mg_exec.specs.Phases.{HasRead, ended, is_select}
use Rattle.mg_rows.specs.Answering.{Answers}
use Rattle.mg_exec.specs.Selecting.{answer_told}

-- ---- one record

-- whether a row passes the statement's filter
abbrev pub passes_of : {P : Type 0} → Reading P → Cells → Option Bool
passes_of reading row = passes_filter (tree_in (filter_in reading.bound.statement)) row

-- The row of a record that was visited is kept with its key, where it passes the filter; or the filter
-- faults on it, or memory is short.
abbrev pub KeepsRow : {P : Type 0} → Reading P → Value × Cells → Phase P → Result Step StatementFault → Type 0
KeepsRow before row (phases.Reading after) (Ok More) = (after.walk ≡ before.walk)
    × (after.bound ≡ before.bound)
    × Keeps (passes_of before row.1) row before.kept.items after.kept.items (Ok tt)
KeepsRow before row phases.Ended (Err Arithmetic) = passes_of before row.1 ≡ None
KeepsRow before row phases.Ended (Err (Engine refusals.Memory)) = Unit {0}
KeepsRow before row phase answer = ⊥

-- rows that were kept, without their keys and in the order of those
pub record AreInOrder (kept : KeyedRows) (rows : List Cells) : Type 0 where
  pub sorted : KeyedRows
  pub order : AreSorted keyed_cmp kept sorted
  pub bare : rows ≡ map (λ r. r.1) sorted

-- ---- the end

-- the event by which a statement tells what it found
abbrev pub find_of : TxNo → Table → Bound → Event
find_of t table bound = Find t table.name (filter_in bound.statement)

-- the rows that pass the statement's filter, of those that the transaction sees, in key order; none
-- where the filter faults on one of them
abbrev pub rows_found : Opening → Entries → ℕ → Table → Bound → Option (List Cells)
rows_found o h t table bound = found (tree_in (filter_in bound.statement)) (rows_seen o h t table.name)

-- the rows that a reading kept are, in the order of their keys, what the machine finds
abbrev pub IsWhatIsFound : Opening → Entries → TxNo → Table → Bound → KeyedRows → Type 0
IsWhatIsFound o h t table bound kept = (rows : List Cells) → AreInOrder kept rows
    → answer o h (find_of t table bound) ≡ Rows rows

-- A statement that has told which rows it found goes on with them: a SELECT answers by them, and any
-- other makes its writes of them.
pub data GoesOnWith {R P : Type 0} (m : Means R P) (new : R) (o : Opening) (h : Entries) (t : TxNo)
    (table : Table) (bound : Bound) (rows : List Cells) (turn : Turn P) : Type 0 where
  answers : (given : Result (List Cells) EvalFault)
      → Answers (plain_of bound.statement) bound.places.items table.shape.key rows given
      → turn ≡ ended (answer_told given) → m.stands new o h → GoesOnWith m new o h t table bound rows turn
  writes : is_select (plain_of bound.statement) ≡ false → StartsToWrite m new o h t table bound rows turn
      → GoesOnWith m new o h t table bound rows turn

-- A statement tells which rows it found, and goes on with them; where the telling is refused, it
-- answers that.
abbrev pub Finds : {R P : Type 0} → Means R P → R → Opening → Entries → TxNo → Table → Bound → List Cells
    → Turn P → Type 0
Finds m new o h t table bound rows turn =
    ((refusal : Refusal) × (turn ≡ ended (Err (Engine refusal)))
    × Comes m new o h (find_of t table bound) (No refusal))
    ⊎ (IsLawful o h (entry (find_of t table bound) (Rows rows))
    × GoesOnWith m new o (entry (find_of t table bound) (Rows rows) ∷ h) t table bound rows turn)

-- A reading of a table is at its end: the rows that it kept, in the order of their keys, are told and
-- gone on with, where they are what the machine finds; or memory is short, and no event is given.
pub data Ends {R P : Type 0} (m : Means R P) (new : R) (o : Opening) (h : Entries) (t : TxNo)
    (table : Table) (bound : Bound) (kept : KeyedRows) (turn : Turn P) : Type 0 where
  in_order : (rows : List Cells) → AreInOrder kept rows
      → (answer o h (find_of t table bound) ≡ Rows rows → Finds m new o h t table bound rows turn)
      → Ends m new o h t table bound kept turn
  no_memory : turn ≡ ended (Err (Engine refusals.Memory)) → m.stands new o h
      → Ends m new o h t table bound kept turn

-- A step of a statement that reads a table, and has kept so many rows.
pub data Reads {R P : Type 0} (m : Means R P) (new : R) (o : Opening) (h : Entries) (t : TxNo)
    (table : Table) (bound : Bound) (count : ℕ) (turn : Turn P) : Type 0 where
  -- it comes to one further record, of which it keeps a row at most, and no event is given
  comes_on : (after : Reading P) → turn ≡ record { phase = phases.Reading after; answer = Ok More }
      → after.bound ≡ bound → after.walk.table ≡ table → m.stands new o h
      → HasRead m new o h t.0 after → length after.kept.items ≤ count + 1
      → Reads m new o h t table bound count turn
  -- it is at its end, and goes on with the rows that it found, which are those that it kept
  finds : (rows : List Cells) → rows_found o h t.0 table bound ≡ Some rows → length rows ≡ count
      → Finds m new o h t table bound rows turn → Reads m new o h t table bound count turn
  -- the filter faults on a row, and no event is given
  faults : rows_found o h t.0 table bound ≡ None → turn ≡ ended (Err Arithmetic)
      → m.stands new o h → Reads m new o h t table bound count turn
  -- a call is refused, or memory is short, and no event is given
  stops : (refusal : Refusal) → IsRefused o h t.0 refusal → turn ≡ ended (Err (Engine refusal))
      → m.stands new o h → Reads m new o h t table bound count turn
