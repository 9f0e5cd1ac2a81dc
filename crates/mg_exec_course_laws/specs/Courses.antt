-- Statements that run over a keeper, as the courses of a transcript: what is left of one where it stands, and what a
-- step of it comes to.
use Rattle.std.specs.Prelude.{◌≡◌, ◌≢◌, ◌≤◌, ℕ, true, List, [], map, Result, Ok, Err, length, Bool, false, ◌⊎◌, Some, None, not}
use Rattle.mg_base.specs.declared.numbers.TxNo.{TxNo}
use Rattle.mg_statements.specs.declared.statement.Def.{Def}
use Rattle.mg_statements.specs.Plain.{Plain, RollbackTo, Savepoint, Table as Creation}
use Rattle.mg_plan.specs.declared.bound.Bound.{Bound}
use Rattle.mg_plan.specs.Refusing.{IsBoundAs}
use Rattle.mg_plan.specs.Shapes.{shape_of}
use Rattle.mg_model.specs.declared.opening.Opening.{Opening}
use Rattle.mg_model.specs.declared.refusal.Refusal.TheVariants.{Waits}
use Rattle.mg_model.specs.declared.table.Table.{Table}
use Rattle.mg_model.specs.Answers.{is_active}
use Rattle.mg_model.specs.History.{Entries}
use Rattle.mg_records.specs.Meaning.{Means}
use Rattle.mg_records.specs.Writing.{event_of}
use Rattle.mg_rows.specs.declared.outcome.Outcome.TheVariants as outcomes
use Rattle.mg_rows.specs.declared.statement_fault.StatementFault.{StatementFault}
use Rattle.mg_rows.specs.declared.statement_fault.StatementFault.TheVariants.{Engine}
use Rattle.mg_script.specs.declared.reply.Reply.TheVariants as replies
use Rattle.mg_exec.specs.declared.phase.Changing.{Changing}
use Rattle.mg_exec.specs.declared.phase.NewTable.{NewTable}
use Rattle.mg_exec.specs.declared.phase.Phase.{Phase}
use Rattle.mg_exec.specs.declared.phase.Phase.TheVariants as phases
use Rattle.mg_exec.specs.declared.phase.Step.{Step}
use Rattle.mg_exec.specs.declared.phase.Step.TheVariants.{Done, More}
use Rattle.mg_exec.specs.declared.phase.Turn.{Turn}
use Rattle.mg_exec.specs.Changing.{Changes, StartsToWrite}
use Rattle.mg_exec.specs.Creating.{Creates, Retries}
use Rattle.mg_exec.specs.Phases.{HasRead, StandsAt, is_insert}
use Rattle.mg_exec.specs.Points.{Returns, Saves}
use Rattle.mg_exec.specs.Reading.{Reads}
use Rattle.mg_exec.specs.Running.{Goes, is_rolled_back_at}
use Rattle.mg_exec.specs.declared.phase.Inserting.{Inserting}
use Rattle.mg_exec.specs.declared.phase.Reading.{Reading}
use Rattle.mg_transcript.specs.Courses.{Begun, Comes, Course, Ends, Later, Making, Parks, Writing}
use Rattle.mg_transcript.specs.Statements.{makings, table_of, fault_of, looks, reads}
use Rattle.mg_model.specs.declared.refusal.Refusal.{Refusal}
use Rattle.mg_records.specs.Reading.{shape_seen}
use Rattle.mg_exec.specs.Starting.{TestsAny}
use Rattle.mg_model.specs.Machine.{state_of}
use Rattle.mg_base.specs.declared.transaction.TxState.TheVariants.{Active}
use Rattle.mg_transcript.specs.Steps.{Steps, is_outside}

-- ---- where a statement stands

-- A statement is bound to the table that it names.
pub record IsBoundHere (s : Plain) (table : Table) (bound : Bound) : Type 0 where
  pub named : table.name ≡ table_of s
  pub binds : IsBoundAs table.shape.columns s bound

-- It makes this table.
pub record IsPlannedHere (s : Plain) (table : NewTable) : Type 0 where
  pub columns : List Def
  pub statement : s ≡ Creation table.name columns
  pub shaped : table.shape ≡ shape_of columns

-- the events of the writes that are left
abbrev pub IsWritingCourse : TxNo → Changing → Course → Type 0
IsWritingCourse t c course = (c.writes.left.items ≢ [])
    × (course ≡ Writing (map (event_of t c.writes.table.name) c.writes.left.items) (outcomes.Count c.count))

-- what is left of a statement that stands here: of one that reads, as many steps were taken as rows are kept
abbrev pub IsCourse : {P : Type 0} → TxNo → Plain → Phase P → Course → Type 0
IsCourse t s (phases.Saving name) course = (s ≡ Savepoint name) × ((taken : ℕ) × (course ≡ Begun s taken))
IsCourse t s (phases.Returning name) course = (s ≡ RollbackTo name) × ((taken : ℕ) × (course ≡ Begun s taken))
IsCourse t s (phases.Inserting i) course = (is_insert s ≡ true) × IsBoundHere s i.table i.bound
    × ((taken : ℕ) × (course ≡ Begun s taken))
IsCourse t s (phases.Reading reading) course = (reads s ≡ true) × IsBoundHere s reading.walk.table reading.bound
    × ((taken : ℕ) × (course ≡ Begun s taken) × (length reading.kept.items ≤ taken))
IsCourse t s (phases.Changing c) course = IsWritingCourse t c course
IsCourse t s (phases.Creating table) course = IsPlannedHere s table × ((taken : ℕ) × (course ≡ Begun s taken))
IsCourse t s (phases.Retrying table) course = IsPlannedHere s table
    × (course ≡ Making (makings t s) outcomes.Fine)
IsCourse t s phases.Ended course = ⊥
IsCourse t s phases.RolledBack course = ⊥

-- ---- what a step came to

-- it is at its end, goes on, or waits
abbrev pub IsTurnedSo : {P : Type 0} → TxNo → Plain → Phase P → Result Step StatementFault → Comes → Type 0
IsTurnedSo t s phases.Ended (Ok (Done outcome)) comes = comes ≡ Ends (replies.Ok outcome)
IsTurnedSo t s phases.Ended (Err fault) comes = comes ≡ Ends (replies.No fault)
IsTurnedSo t s phases.RolledBack (Err fault) comes = comes ≡ Ends (replies.No fault)
IsTurnedSo t s phase (Ok More) (Later course) = IsCourse t s phase course
IsTurnedSo t s phase (Err (Engine (Waits on))) (Parks by course) = (on ≡ by) × IsCourse t s phase course
IsTurnedSo t s phase answer comes = ⊥

abbrev pub IsTurned : {P : Type 0} → TxNo → Plain → Turn P → Comes → Type 0
IsTurned t s turn comes = IsTurnedSo t s turn.phase turn.answer comes

-- a transaction that was active is so still, but where it was given up
abbrev pub StaysActive : Opening → Entries → TxNo → Entries → Bool → Type 0
StaysActive o h t after over = state_of o h t.0 ≡ Active → is_active (state_of o after t.0) ≡ not over

-- A step of a statement is one of the transcript's, and it is told what it came to.
pub record Tells {R P : Type 0} (m : Means R P) (new : R) (o : Opening) (h : Entries) (t : TxNo) (s : Plain)
    (course : Course) (turn : Turn P) : Type 0 where
  pub after : Entries
  pub comes : Comes
  pub steps : Steps o h t course after comes
  pub stands : m.stands new o after
  -- what is known of where it stands then
  pub stays : StandsAt m new o after t.0 turn.phase
  pub active : StaysActive o h t after (is_rolled_back_at turn.phase)
  pub told : IsTurned t s turn comes

-- ---- the laws, phase by phase

abbrev pub SavesTell : {R P : Type 0} → Means R P → Type 0
SavesTell {R = R} {P = P} m = (new : R) (o : Opening) (h : Entries) (t : TxNo) (name : List ℕ) (taken : ℕ)
    (turn : Turn P) → Saves m new o h t name turn
    → Tells m new o h t (Savepoint name) (Begun (Savepoint name) taken) turn

abbrev pub ReturnsTell : {R P : Type 0} → Means R P → Type 0
ReturnsTell {R = R} {P = P} m = (new : R) (o : Opening) (h : Entries) (t : TxNo) (name : List ℕ) (taken : ℕ)
    (turn : Turn P) → Returns m new o h t name turn
    → Tells m new o h t (RollbackTo name) (Begun (RollbackTo name) taken) turn

abbrev pub ChangesTell : {R P : Type 0} → Means R P → Type 0
ChangesTell {R = R} {P = P} m = (new : R) (o : Opening) (h : Entries) (t : TxNo) (s : Plain) (c : Changing)
    (course : Course) (turn : Turn P) → IsWritingCourse t c course → Changes m new o h t c turn
    → Tells m new o h t s course turn

abbrev pub CreatesTell : {R P : Type 0} → Means R P → Type 0
CreatesTell {R = R} {P = P} m = (new : R) (o : Opening) (h : Entries) (t : TxNo) (s : Plain) (taken : ℕ)
    (table : NewTable) (turn : Turn P) → IsPlannedHere s table → Creates m new o h t table turn
    → Tells m new o h t s (Begun s taken) turn

abbrev pub RetriesTell : {R P : Type 0} → Means R P → Type 0
RetriesTell {R = R} {P = P} m = (new : R) (o : Opening) (h : Entries) (t : TxNo) (s : Plain) (table : NewTable)
    (turn : Turn P) → IsPlannedHere s table → Retries m new o h t table turn
    → Tells m new o h t s (Making (makings t s) outcomes.Fine) turn

abbrev pub InsertsTell : {R P : Type 0} → Means R P → Type 0
InsertsTell {R = R} {P = P} m = (new : R) (o : Opening) (h : Entries) (t : TxNo) (s : Plain) (taken : ℕ)
    (table : Table) (bound : Bound) (turn : Turn P) → is_insert s ≡ true → IsBoundHere s table bound
    → shape_seen o h t.0 table.name ≡ Some table.shape → StartsToWrite m new o h t table bound [] turn
    → Tells m new o h t s (Begun s taken) turn

abbrev pub ReadsTell : {R P : Type 0} → Means R P → Type 0
ReadsTell {R = R} {P = P} m = (new : R) (o : Opening) (h : Entries) (t : TxNo) (s : Plain) (taken : ℕ)
    (table : Table) (bound : Bound) (count : ℕ) (turn : Turn P) → reads s ≡ true → IsBoundHere s table bound
    → count ≤ taken → state_of o h t.0 ≡ Active → shape_seen o h t.0 table.name ≡ Some table.shape
    → Reads m new o h t table bound count turn → Tells m new o h t s (Begun s taken) turn

-- ---- any phase

-- where an INSERT stands: its transaction sees its table
pub record IsAtRow (P : Type 0) (o : Opening) (h : Entries) (t : TxNo) (s : Plain) (i : Inserting) (course : Course)
    : Type 0 where
  pub has_left : IsCourse {P = P} t s (phases.Inserting i) course
  pub seen : shape_seen o h t.0 i.table.name ≡ Some i.table.shape

-- where a reading stands: its transaction is active, and sees its table
pub record IsAtRecord {R P : Type 0} (m : Means R P) (r : R) (o : Opening) (h : Entries) (t : TxNo) (s : Plain)
    (reading : Reading P) (course : Course) : Type 0 where
  pub has_left : IsCourse t s (phases.Reading reading) course
  pub active : state_of o h t.0 ≡ Active
  pub seen : shape_seen o h t.0 reading.walk.table.name ≡ Some reading.walk.table.shape
  pub read : HasRead m r o h t.0 reading

-- where a statement stands for a history
abbrev pub IsAtCourse : {R P : Type 0} → Means R P → R → Opening → Entries → TxNo → Plain → Phase P → Course → Type 0
IsAtCourse {P = P} m r o h t s (phases.Inserting i) course = IsAtRow P o h t s i course
IsAtCourse m r o h t s (phases.Reading reading) course = IsAtRecord m r o h t s reading course
IsAtCourse m r o h t s phase course = IsCourse t s phase course

-- each step is one of the transcript's
abbrev pub StepsTell : {R P : Type 0} → Means R P → Type 0
StepsTell {R = R} {P = P} m = (old new : R) (o : Opening) (h : Entries) (t : TxNo) (s : Plain) (phase : Phase P)
    (course : Course) (turn : Turn P) → IsAtCourse m old o h t s phase course → Goes m old new o h t phase turn
    → Tells m new o h t s course turn

-- ---- the tests

-- a fault is a refusal from outside
pub record IsOutsideFault (fault : StatementFault) : Type 0 where
  pub refusal : Refusal
  pub is : fault ≡ Engine refusal
  pub outside : is_outside refusal ≡ true

-- the first fault of the tests is told, and where there is none the statement begins; one that looks may be refused
-- from outside
abbrev pub IsTestTold : {R P : Type 0} → Means R P → R → Opening → Entries → TxNo → Bool → ℕ → Plain
    → Result (Phase P) StatementFault → Type 0
IsTestTold m new o h t read_only size s (Ok phase) = m.stands new o h × ((looks s ≡ false)
    ⊎ (fault_of read_only (shape_seen o h t.0 (table_of s)) size s ≡ None)) × IsCourse t s phase (Begun s 0)
IsTestTold m new o h t read_only size s (Err fault) = m.stands new o h × (looks s ≡ true)
    × ((fault_of read_only (shape_seen o h t.0 (table_of s)) size s ≡ Some fault) ⊎ IsOutsideFault fault)

abbrev pub TestsTell : {R P : Type 0} → Means R P → Type 0
TestsTell {R = R} {P = P} m = (new : R) (o : Opening) (h : Entries) (t : TxNo) (read_only : Bool) (size : ℕ)
    (s : Plain) (result : Result (Phase P) StatementFault) → state_of o h t.0 ≡ Active
    → TestsAny m new o h t read_only s size result → IsTestTold m new o h t read_only size s result
