-- A statement that has begun, a COMMIT among them: where it stands, and what its beginning and its
-- steps come to.
use Rattle.std.specs.Prelude.{◌≡◌, ◌⊎◌, ◌<◌, ◌+◌, ℕ, Bool, true, false, not, Option, Some, None, if◌then◌else◌}
use Rattle.mg_base.specs.declared.numbers.TxNo.{TxNo}
use Rattle.mg_statements.specs.Plain.{Plain}
use Rattle.mg_model.specs.declared.opening.Opening.{Opening}
use Rattle.mg_model.specs.declared.refusal.Refusal.{Refusal}
use Rattle.mg_model.specs.Answers.{is_active}
use Rattle.mg_model.specs.History.{Entries}
use Rattle.mg_model.specs.Machine.{state_of}
use Rattle.mg_records.specs.Meaning.{Means}
use Rattle.mg_rows.specs.declared.statement_fault.StatementFault.{StatementFault}
use Rattle.mg_script.specs.declared.reply.Reply.TheVariants as replies
use Rattle.mg_transcript.specs.Statements.{looks}
use Rattle.mg_transcript.specs.Courses.{Course, Begun, Committing, Comes, Later, Parks, Ends}
use Rattle.mg_courses.specs.declared.starting.Started.{Started}
use Rattle.mg_courses.specs.declared.starting.Started.TheVariants as started
use Rattle.mg_courses.specs.declared.statements.Stepped.{Stepped}
use Rattle.mg_courses.specs.declared.statements.Stepped.TheVariants.{More, Waits, Ended}
use Rattle.mg_courses.specs.declared.work.Work.{Work}
use Rattle.mg_courses.specs.declared.work.Work.TheVariants as works
use Rattle.mg_exec_course_laws.specs.Courses.{IsOutsideFault}
use Rattle.mg_courses.specs.Running.{RunMeans, goes_on, refusal_answered, fault_if_looks}
use Rattle.mg_courses.specs.Carrying.{Carries}

-- the next step of a COMMIT may be made
abbrev pub IsCommitReady : {R P : Type 0} → Means R P → R → TxNo → Bool → Type 0
IsCommitReady m r t false = m.is_asked r t.0
IsCommitReady m r t true = m.is_written r t.0

-- the next step of a statement may be made
abbrev pub IsWorkReady : {R P Run : Type 0} → Means R P → RunMeans R Run → R → TxNo → Work Run → Type 0
IsWorkReady m runs r t (works.Statement run) = runs.is_ready r t run
IsWorkReady m runs r t (works.Commit written) = IsCommitReady m r t written

-- after a history this is left of it
abbrev pub IsWorkAt : {R Run : Type 0} → RunMeans R Run → R → Opening → Entries → TxNo → Work Run
    → Course → Type 0
IsWorkAt runs r o h t (works.Statement run) course = runs.is_at r o h t run course
IsWorkAt runs r o h t (works.Commit written) course = course ≡ Committing written

-- a number that falls with each step
abbrev pub work_left : {R P Run : Type 0} → Means R P → RunMeans R Run → R → TxNo → Work Run → ℕ
work_left m runs r t (works.Statement run) = runs.still r t run
work_left m runs r t (works.Commit false) = m.unwritten r + 1
work_left m runs r t (works.Commit true) = 0

-- ---- what is told

-- what a step came to is told, and where the statement goes on its work stands at the rest of it
abbrev pub IsWorkTold : {R Run : Type 0} → RunMeans R Run → R → Opening → Entries → TxNo → Work Run
    → Stepped → Comes → Type 0
IsWorkTold runs new o after t work More (Later course) = IsWorkAt runs new o after t work course
IsWorkTold runs new o after t work (Waits on) (Parks by course) =
    (on ≡ by) × IsWorkAt runs new o after t work course
IsWorkTold runs new o after t work (Ended ending) (Ends reply) = ending.reply ≡ reply
IsWorkTold runs new o after t work stepped comes = ⊥

abbrev pub IsWorkReadyIf : {R P Run : Type 0} → Means R P → RunMeans R Run → R → TxNo → Work Run
    → Stepped → Type 0
IsWorkReadyIf m runs new t work More = IsWorkReady m runs new t work
IsWorkReadyIf m runs new t work (Waits on) = IsWorkReady m runs new t work
IsWorkReadyIf m runs new t work (Ended ending) = Unit {0}

abbrev pub IsWorkNearer : {R P Run : Type 0} → Means R P → RunMeans R Run → R → R → TxNo → Work Run
    → Work Run → Stepped → Type 0
IsWorkNearer m runs old new t before work More = work_left m runs new t work < work_left m runs old t before
IsWorkNearer m runs old new t before work (Waits on) = Unit {0}
IsWorkNearer m runs old new t before work (Ended ending) = Unit {0}

-- ---- a step, and several

-- From a history on a statement comes to something, by a relation between both; the keeper stands for
-- the history then, no crash loses what was durable, and it is told what it came to.
pub record WorkDone {R P Run : Type 0} (m : Means R P) (runs : RunMeans R Run) (old new : R)
    (o : Opening) (h : Entries) (t : TxNo) (work : Work Run) (stepped : Stepped)
    (By : Entries → Comes → Type 0) : Type 0 where
  pub after : Entries
  pub comes : Comes
  pub does : By after comes
  pub stands : m.stands new o after
  pub told : IsWorkTold runs new o after t work stepped comes
  pub active : is_active (state_of o after t.0) ≡ goes_on stepped
  pub carries : Carries m old new o h after

-- ---- the beginning

-- its transaction is not over
abbrev pub begun_goes_on : {Run : Type 0} → Started Run → Bool
begun_goes_on (started.Begun work) = true
begun_goes_on (started.Ended ending) = not ending.over

abbrev pub over_at_start : {Run : Type 0} → ℕ → Started Run → Option ℕ
over_at_start t (started.Begun work) = None
over_at_start t (started.Ended ending) = if ending.over then Some t else None

abbrev pub refusal_at_start : {Run : Type 0} → Started Run → Option Refusal
refusal_at_start (started.Begun work) = None
refusal_at_start (started.Ended ending) = refusal_answered ending.reply

abbrev pub IsStartTold : {R Run : Type 0} → RunMeans R Run → R → Opening → Entries → TxNo → Started Run
    → Comes → Type 0
IsStartTold runs new o after t (started.Begun work) (Later course) = IsWorkAt runs new o after t work course
IsStartTold runs new o after t (started.Ended ending) (Ends reply) = ending.reply ≡ reply
IsStartTold runs new o after t result comes = ⊥

abbrev pub IsStartReady : {R P Run : Type 0} → Means R P → RunMeans R Run → R → TxNo → Started Run → Type 0
IsStartReady m runs new t (started.Begun work) = IsWorkReady m runs new t work
IsStartReady m runs new t (started.Ended ending) = Unit {0}

-- A statement begins, by the relation that says it; no crash loses what was durable.
pub record StartDone {R P Run : Type 0} (m : Means R P) (runs : RunMeans R Run) (old new : R)
    (o : Opening) (h : Entries) (t : TxNo) (result : Started Run) (By : Entries → Comes → Type 0)
    : Type 0 where
  pub after : Entries
  pub comes : Comes
  pub does : By after comes
  pub stands : m.stands new o after
  pub told : IsStartTold runs new o after t result comes
  pub active : is_active (state_of o after t.0) ≡ begun_goes_on result
  pub carries : Carries m old new o h after

-- A statement that runs in steps is tested, and begins or is at its end; no event is given.
abbrev pub BeginDone : {R P Run : Type 0} → Means R P → RunMeans R Run → R → R → Opening → Entries
    → TxNo → Bool → ℕ → Plain → Started Run → Type 0
BeginDone m runs old new o h t read_only size s (started.Begun work) = m.stands new o h
    × Carries m old new o h h
    × (fault_if_looks o h t read_only size s ≡ None) × IsWorkAt runs new o h t work (Begun s 0)
BeginDone m runs old new o h t read_only size s (started.Ended ending) = m.stands new o h
    × Carries m old new o h h × (looks s ≡ true) × (ending.over ≡ false)
    × ((fault : StatementFault) × (ending.reply ≡ replies.No fault)
    × ((fault_if_looks o h t read_only size s ≡ Some fault) ⊎ IsOutsideFault fault))
