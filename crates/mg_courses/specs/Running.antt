-- What statements mean that run on a keeper of records.
use Rattle.std.specs.Prelude.{◌≡◌, ◌⊎◌, ◌<◌, ℕ, Bool, true, false, not, List, ◌∷◌, Option, Some, None, Result, Ok, Err, if◌then◌else◌}
use Rattle.mg_base.specs.declared.numbers.TxNo.{TxNo}
use Rattle.mg_statements.specs.Plain.{Plain, RollbackTo, Savepoint}
use Rattle.mg_model.specs.declared.opening.Opening.{Opening}
use Rattle.mg_model.specs.declared.refusal.Refusal.{Refusal}
use Rattle.mg_model.specs.declared.refusal.Refusal.TheVariants as refusals
use Rattle.mg_model.specs.declared.table.Table.{Table}
use Rattle.mg_model.specs.Answers.{is_active}
use Rattle.mg_model.specs.Changes.{KeyedRows}
use Rattle.mg_model.specs.Effects.{is_its}
use Rattle.mg_model.specs.History.{Entry, Entries}
use Rattle.mg_model.specs.Machine.{state_of}
use Rattle.mg_records.specs.Meaning.{Means}
use Rattle.mg_records.specs.Reading.{shape_seen}
use Rattle.mg_rows.specs.declared.statement_fault.StatementFault.{StatementFault}
use Rattle.mg_rows.specs.declared.statement_fault.StatementFault.TheVariants.{Engine}
use Rattle.mg_script.specs.declared.reply.Reply.{Reply}
use Rattle.mg_script.specs.declared.reply.Reply.TheVariants as replies
use Rattle.mg_transcript.specs.Courses.{Course, Begun, Comes, Later, Parks, Ends}
use Rattle.mg_transcript.specs.Statements.{looks, table_of, fault_of}
use Rattle.mg_transcript.specs.Steps.{Steps}
use Rattle.mg_exec_course_laws.specs.Courses.{IsOutsideFault}
use Rattle.mg_courses.specs.declared.statements.Stepped.{Stepped}
use Rattle.mg_courses.specs.declared.statements.Stepped.TheVariants.{More, Waits, Ended}

-- What is known of the statements that run on a keeper.
pub record RunMeans (R Run : Type 0) : Type 1 where
  -- the next step of a run may be made for this transaction
  pub is_ready : R → TxNo → Run → Type 0
  -- after a history this is left of the statement of a run
  pub is_at : R → Opening → Entries → TxNo → Run → Course → Type 0
  -- a number that falls with each step, so that a statement ends
  pub still : R → TxNo → Run → ℕ

-- ---- the beginning

-- a statement that runs in steps once it is tested
abbrev pub runs_in_steps : Plain → Bool
runs_in_steps (RollbackTo name) = true
runs_in_steps (Savepoint name) = true
runs_in_steps s = looks s

-- the first fault of its tests, for one that looks
abbrev pub fault_if_looks : Opening → Entries → TxNo → Bool → ℕ → Plain → Option StatementFault
fault_if_looks o h t read_only size s =
    if looks s then fault_of read_only (shape_seen o h t.0 (table_of s)) size s else None

-- the test tells the first fault, and where there is none the statement begins; one that looks may be
-- refused from outside
abbrev pub IsTested : {R P Run : Type 0} → Means R P → RunMeans R Run → R → Opening → Entries → TxNo
    → Bool → ℕ → Plain → Result Run StatementFault → Type 0
IsTested m runs new o h t read_only size s (Ok run) = m.stands new o h
    × (fault_if_looks o h t read_only size s ≡ None) × runs.is_at new o h t run (Begun s 0)
IsTested m runs new o h t read_only size s (Err fault) = m.stands new o h × (looks s ≡ true)
    × ((fault_if_looks o h t read_only size s ≡ Some fault) ⊎ IsOutsideFault fault)

-- ---- a step

-- the refusal of the keeper that is told
abbrev pub refusal_of : StatementFault → Option Refusal
refusal_of (Engine refusal) = Some refusal
refusal_of fault = None

abbrev pub refusal_tested : {T : Type 0} → Result T StatementFault → Option Refusal
refusal_tested (Ok x) = None
refusal_tested (Err fault) = refusal_of fault

abbrev pub refusal_answered : Reply → Option Refusal
refusal_answered (replies.No fault) = refusal_of fault
refusal_answered reply = None

abbrev pub refusal_told : Stepped → Option Refusal
refusal_told More = None
refusal_told (Waits on) = Some (refusals.Waits on)
refusal_told (Ended ending) = refusal_answered ending.reply

-- the transaction of the statement is not over
abbrev pub goes_on : Stepped → Bool
goes_on More = true
goes_on (Waits on) = true
goes_on (Ended ending) = not ending.over

-- the statement waits or is at its end
abbrev pub rests : Stepped → Bool
rests More = false
rests (Waits on) = true
rests (Ended ending) = true

-- the transaction that is over
abbrev pub over_in : ℕ → Stepped → Option ℕ
over_in t More = None
over_in t (Waits on) = None
over_in t (Ended ending) = if ending.over then Some t else None

-- what a step came to is told, and where the statement goes on the run stands at the rest of it
abbrev pub IsTold : {R Run : Type 0} → RunMeans R Run → R → Opening → Entries → TxNo → Run → Stepped
    → Comes → Type 0
IsTold runs new o after t run More (Later course) = runs.is_at new o after t run course
IsTold runs new o after t run (Waits on) (Parks by course) =
    (on ≡ by) × runs.is_at new o after t run course
IsTold runs new o after t run (Ended ending) (Ends reply) = ending.reply ≡ reply
IsTold runs new o after t run stepped comes = ⊥

-- A step of a statement that stands at a course after a history.
pub record StepDone {R P Run : Type 0} (m : Means R P) (runs : RunMeans R Run) (new : R) (o : Opening)
    (h : Entries) (t : TxNo) (course : Course) (run : Run) (stepped : Stepped) : Type 0 where
  pub after : Entries
  pub comes : Comes
  pub steps : Steps o h t course after comes
  pub stands : m.stands new o after
  pub told : IsTold runs new o after t run stepped comes
  pub active : is_active (state_of o after t.0) ≡ goes_on stepped

-- a statement that goes on is ready for it
abbrev pub IsReadyIf : {R Run : Type 0} → RunMeans R Run → R → TxNo → Run → Stepped → Type 0
IsReadyIf runs new t run More = runs.is_ready new t run
IsReadyIf runs new t run (Waits on) = runs.is_ready new t run
IsReadyIf runs new t run (Ended ending) = Unit {0}

-- one that goes on at once is nearer to its end
abbrev pub IsNearer : {R Run : Type 0} → RunMeans R Run → R → R → TxNo → Run → Run → Stepped → Type 0
IsNearer runs old new t before run More = runs.still new t run < runs.still old t before
IsNearer runs old new t before run (Waits on) = Unit {0}
IsNearer runs old new t before run (Ended ending) = Unit {0}

-- ---- what others do beside it

-- What calls for other transactions leave to a transaction.
pub record Spares {R P : Type 0} (m : Means R P) (old new : R) (t : ℕ) : Type 0 where
  pub tables : (name : List ℕ) (table : Table) → m.table old t name ≡ Some table
      → m.table new t name ≡ Some table
  pub walks : (table : Table) (after : Option P) (rows : KeyedRows) → m.to_come old t table after rows
      → m.to_come new t table after rows
  pub given : (table : Table) → m.was_given old table → m.was_given new table
  pub places : (table : Table) (place : P) → m.is_place old table place → m.is_place new table place
  pub sizes : (size : ℕ) → m.is_size new size ≡ m.is_size old size

-- a history goes on by entries that are not of a transaction
pub data GoesOnBeside (t : ℕ) (h : Entries) : Entries → Type 0 where
  as_before : GoesOnBeside t h h
  one_beside : {after : Entries} (e : Entry) → is_its t e ≡ false → GoesOnBeside t h after
      → GoesOnBeside t h (e ∷ after)

-- a run that is ready stays so
abbrev pub RunsStay : {R P Run : Type 0} → Means R P → RunMeans R Run → Type 0
RunsStay {R = R} {Run = Run} m runs = (old new : R) (t : TxNo) (run : Run) → Spares m old new t.0
    → runs.is_ready old t run → runs.is_ready new t run

-- it stays where it stands
abbrev pub CoursesStay : {R P Run : Type 0} → Means R P → RunMeans R Run → Type 0
CoursesStay {R = R} {Run = Run} m runs = (old new : R) (o : Opening) (h after : Entries) (t : TxNo)
    (run : Run) (course : Course) → Spares m old new t.0 → GoesOnBeside t.0 h after
    → runs.is_at old o h t run course → runs.is_at new o after t run course
