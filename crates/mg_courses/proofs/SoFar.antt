-- The steps of a statement that were made so far.
use Rattle.std.proofs.Common.{◌≡◌, ◌+◌, ℕ, None}
use Rattle.mg_base.specs.declared.numbers.TxNo.{TxNo}
use Rattle.mg_base.specs.declared.transaction.TxState.TheVariants.{Active}
use Rattle.mg_model.specs.declared.opening.Opening.{Opening}
use Rattle.mg_model.specs.History.{Entries}
use Rattle.mg_model.specs.Machine.{state_of}
use Rattle.mg_records.specs.Meaning.{Means}
use Rattle.mg_records.specs.Sessions.{SessionsStay}
use Rattle.mg_calls.specs.Frames.{Frames}
use Rattle.mg_transcript.specs.Courses.{Course, Comes, Later}
use Rattle.mg_transcript.specs.Steps.{Runs, Takes}
use Rattle.mg_courses.specs.declared.statements.Stepped.{Stepped}
use Rattle.mg_courses.specs.declared.statements.Stepped.TheVariants.{More, Waits, Ended}
use Rattle.mg_courses.specs.declared.work.Work.{Work}
use Rattle.mg_courses.specs.Running.{RunMeans, refusal_told, over_in}
use Rattle.mg_courses.specs.Working.{IsWorkReadyIf, IsWorkAt, WorkDone, work_left}

-- whatever the rest comes to, the whole comes to
abbrev pub RunsOn : Opening → TxNo → Entries → Course → Entries → Comes → Type 0
RunsOn o t h course mid comes = (after : Entries) (final : Comes) → Runs o t mid comes after final
    → Runs o t h (Later course) after final

abbrev pub TakesOn : ℕ → ℕ → Opening → TxNo → Entries → Course → Entries → Comes → Type 0
TakesOn most left o t h course mid comes = (after : Entries) (final : Comes)
    → Takes o t left mid comes after final → Takes o t most h (Later course) after final

-- from each course at which the work stood it came to something, by a relation
abbrev pub DoneBy : {R P Run : Type 0} → Means R P → RunMeans R Run → R → R → TxNo → Work Run → Work Run
    → Stepped → (Opening → TxNo → Entries → Course → Entries → Comes → Type 0) → Type 0
DoneBy m runs old new t before work stepped By = (o : Opening) (h : Entries) (course : Course)
    → m.stands old o h → state_of o h t.0 ≡ Active → IsWorkAt runs old o h t before course
    → WorkDone m runs old new o h t work stepped (By o t h course)

-- What stands of all steps so far.
pub record SoFar {R P Run : Type 0} (m : Means R P) (runs : RunMeans R Run) (old new : R) (t : TxNo)
    (work : Work Run) (stepped : Stepped) : Type 0 where
  pub ready : IsWorkReadyIf m runs new t work stepped
  pub frames : Frames m old new t.0 (refusal_told stepped)
  pub sessions : SessionsStay m old new None (over_in t.0 stepped)

-- how much is left, nothing once the statement rests
abbrev pub left_of : {R P Run : Type 0} → Means R P → RunMeans R Run → R → TxNo → Work Run → Stepped → ℕ
left_of m runs r t work More = work_left m runs r t work + 1
left_of m runs r t work (Waits on) = 0
left_of m runs r t work (Ended ending) = 0
