-- The statements of mg_exec, over any keeper of records, as runs.
use Rattle.std.specs.Prelude.{◌≡◌, Result, Ok, Err, if◌then◌else◌}
use Rattle.mg_base.specs.declared.numbers.TxNo.{TxNo}
use Rattle.mg_statements.specs.Plain.{Plain}
use Rattle.mg_model.specs.declared.opening.Opening.{Opening}
use Rattle.mg_model.specs.declared.refusal.Refusal.TheVariants as refusals
use Rattle.mg_model.specs.History.{Entries}
use Rattle.mg_records.specs.Meaning.{Means}
use Rattle.mg_rows.specs.declared.statement_fault.StatementFault.{StatementFault}
use Rattle.mg_rows.specs.declared.statement_fault.StatementFault.TheVariants.{Engine}
use Rattle.mg_script.specs.declared.reply.Reply.{Reply}
use Rattle.mg_script.specs.declared.reply.Reply.TheVariants as replies
use Rattle.mg_transcript.specs.Courses.{Course}
use Rattle.mg_exec.specs.declared.phase.Phase.{Phase}
use Rattle.mg_exec.specs.declared.phase.Step.{Step}
use Rattle.mg_exec.specs.declared.phase.Step.TheVariants as steps
use Rattle.mg_exec.specs.declared.run.Run.{Run}
use Rattle.mg_exec.specs.Phases.{IsReady, StandsAt, is_over}
use Rattle.mg_exec.specs.Progress.{still_at}
use Rattle.mg_exec.specs.Running.{is_rolled_back_at}
use Rattle.mg_exec_course_laws.specs.Courses.{IsCourse}
use Rattle.mg_courses.specs.declared.statements.Stepped.{Stepped}
use Rattle.mg_courses.specs.declared.statements.Stepped.TheVariants.{More, Waits, Ended}
use Rattle.mg_courses.specs.Running.{RunMeans}

-- the next step of a statement may be made for this transaction, which is its own
pub record IsGoing {R P : Type 0} (m : Means R P) (r : R) (t : TxNo) (run : Run R P) : Type 0 where
  pub ready : IsReady m r t.0 run.phase
  pub its : run.t ≡ t

-- after a history this is left of a statement that stands here
pub record HasLeft {R P : Type 0} (m : Means R P) (r : R) (o : Opening) (h : Entries) (t : TxNo)
    (phase : Phase P) (course : Course) : Type 0 where
  pub statement : Plain
  pub left : IsCourse t statement phase course
  pub stands : StandsAt m r o h t.0 phase

abbrev pub any_runs : {R P : Type 0} → Means R P → RunMeans R (Run R P)
any_runs m = record {
  is_ready = λ r t run. IsGoing m r t run;
  is_at = λ r o h t run course. HasLeft m r o h t run.phase course;
  still = λ r t run. still_at m r t.0 run.phase;
}

-- ---- what a step is told as, by where the statement stands after it

-- it is at its end
abbrev pub ended_at : {P : Type 0} → Phase P → Reply → Stepped
ended_at phase reply = Ended (record { reply = reply; over = is_rolled_back_at phase })

-- only one that is not at its end waits
abbrev pub stepped_at : {P : Type 0} → Phase P → Result Step StatementFault → Stepped
stepped_at phase (Ok steps.More) = More
stepped_at phase (Ok (steps.Done outcome)) = ended_at phase (replies.Ok outcome)
stepped_at phase (Err (Engine (refusals.Waits on))) =
    if is_over phase then ended_at phase (replies.No (Engine (refusals.Waits on))) else Waits on
stepped_at phase (Err fault) = ended_at phase (replies.No fault)
