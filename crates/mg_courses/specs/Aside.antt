-- What a statement's readers come to is collected, behind its steps.
use Rattle.std.specs.Prelude.{◌≡◌, ℕ, Bool, true, false, Option, Some, None, Result, Ok, Err}
use Rattle.mg_base.specs.declared.numbers.TxNo.{TxNo}
use Rattle.mg_base.specs.declared.transaction.TxState.TheVariants.{Active}
use Rattle.mg_model.specs.declared.opening.Opening.{Opening}
use Rattle.mg_model.specs.declared.refusal.Refusal.{Refusal}
use Rattle.mg_model.specs.declared.table.Table.{Table}
use Rattle.mg_model.specs.History.{Entries}
use Rattle.mg_model.specs.Machine.{state_of}
use Rattle.mg_records.specs.Meaning.{Means}
use Rattle.mg_rows.specs.declared.statement_fault.StatementFault.TheVariants.{Engine}
use Rattle.mg_script.specs.declared.reply.Reply.TheVariants as replies
use Rattle.mg_tending.specs.Collecting.{Collecting, Collects}
use Rattle.mg_calls.specs.Frames.{Frames}
use Rattle.mg_calls.specs.Quiet.{AreQuiet}
use Rattle.mg_exec.specs.declared.run.Run.{Run as RunOf}
use Rattle.mg_exec.specs.Running.{place_at, table_at}
use Rattle.mg_transcript.specs.Courses.{Course, Begun, Writing, Making, Committing}
use Rattle.mg_transcript.specs.Steps.{Steps, is_outside}
use Rattle.mg_courses.specs.declared.statements.Ending.{Ending}
use Rattle.mg_courses.specs.declared.statements.Stepped.{Stepped}
use Rattle.mg_courses.specs.declared.statements.Stepped.TheVariants.{More, Waits, Ended}
use Rattle.mg_courses.specs.declared.work.Work.{Work}
use Rattle.mg_courses.specs.declared.work.Work.TheVariants as works
use Rattle.mg_courses.specs.Running.{RunMeans}
use Rattle.mg_courses.specs.Working.{IsWorkAt, WorkDone}

-- ---- a call beside the steps

-- Nobody's event: every transaction's frame has it, each history stays, and no crash loses anything.
pub record IsAside {R P : Type 0} (m : Means R P) (old new : R) (refusal : Option Refusal) : Type 0 where
  pub frames : (n : ℕ) → Frames m old new n refusal
  pub stays : (o : Opening) (h : Entries) → m.stands old o h → m.stands new o h
  pub quiet : AreQuiet m old new None

-- a statement that has begun, and has given no event since
abbrev pub IsBegun : Course → Type 0
IsBegun (Begun s taken) = Unit {0}
IsBegun (Writing events outcome) = ⊥
IsBegun (Making events outcome) = ⊥
IsBegun (Committing written) = ⊥

-- A statement may end by this refusal, as a visit may: it comes from outside, and wherever the statement stands it has only
-- begun.
pub record MayStop {R Run : Type 0} (runs : RunMeans R Run) (r : R) (o : Opening) (h : Entries) (t : TxNo) (run : Run)
    (refusal : Refusal) : Type 0 where
  pub outside : is_outside refusal ≡ true
  pub begun : (course : Course) → runs.is_at r o h t run course → IsBegun course

-- for each history that the keeper stands for
abbrev pub StopsSo : {R P Run : Type 0} → Means R P → RunMeans R Run → R → TxNo → Run → Result (Unit {0}) Refusal → Type 0
StopsSo m runs r t run (Ok done) = Unit {0}
StopsSo m runs r t run (Err refusal) = (o : Opening) (h : Entries) → m.stands r o h → MayStop runs r o h t run refusal

-- ---- calls that tend pages

-- what is refused comes from outside, and is no want of pages
abbrev pub IsOutsideFor : {R P T : Type 0} → Means R P → R → Result T Refusal → Type 0
IsOutsideFor m old (Ok x) = Unit {0}
IsOutsideFor m old (Err refusal) = (o : Opening) (h : Entries) → m.stands old o h → is_outside refusal ≡ true

-- ---- what a statement of mg_exec has visited

-- The record that a statement visited last is collected, as long as it reads: what remains of it is left.
abbrev pub VisitedIsCollected : {R P : Type 0} → Means R P → Collecting R P → R → R → RunOf R P → Type 0
VisitedIsCollected {P = P} m c old new run = (table : Table) (place : P) → table_at run.phase ≡ Some table
    → place_at run.phase ≡ Some place → (gone : Bool) × Collects m c old new table place gone

-- ---- behind a step

-- nothing is collected: a statement that waits or is at its end, and a COMMIT, have come to no record
abbrev pub is_let_be : {Run : Type 0} → Work Run → Stepped → Bool
is_let_be (works.Statement run) More = false
is_let_be (works.Statement run) (Waits on) = true
is_let_be (works.Statement run) (Ended ending) = true
is_let_be (works.Commit written) stepped = true

-- Behind a step that comes to the first what it visited is collected, and it comes to the second: the same, where nothing
-- is to be collected, or the statement goes on; or a refusal ends it.
pub data IsBehind {R P Run : Type 0} (m : Means R P) (runs : RunMeans R Run) (collected : R → R → Run → Type 0)
    (old new : R) (t : TxNo) (work : Work Run) : Stepped → Stepped → Type 0 where
  let_be : (stepped : Stepped) → is_let_be work stepped ≡ true → new ≡ old
      → IsBehind m runs collected old new t work stepped stepped
  goes_on_then : (run : Run) → work ≡ works.Statement run → IsAside m old new None
      → runs.still new t run ≡ runs.still old t run → collected old new run
      → IsBehind m runs collected old new t work More More
  ends_then : (run : Run) (refusal : Refusal) (ending : Ending) → work ≡ works.Statement run
      → ending.reply ≡ replies.No (Engine refusal) → ending.over ≡ false
      → IsAside m old new (Some refusal) → StopsSo m runs old t run (Err refusal)
      → IsBehind m runs collected old new t work More (Ended ending)

-- A step is made, and what it visited is collected behind it.
pub record CollectsBehind {R P Run : Type 0} (m : Means R P) (runs : RunMeans R Run) (collected : R → R → Run → Type 0)
    (old new : R) (t : TxNo) (before work : Work Run) (stepped : Stepped) : Type 0 where
  pub between : R
  pub first : Stepped
  pub step : (o : Opening) (h : Entries) (course : Course) → m.stands old o h → state_of o h t.0 ≡ Active
      → IsWorkAt runs old o h t before course
      → WorkDone m runs old between o h t work first (Steps o h t course)
  pub behind : IsBehind m runs collected between new t work first stepped
