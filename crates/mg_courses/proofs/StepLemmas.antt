-- A step of a statement leaves to crashes what is durable.
use Rattle.std.proofs.Common.{◌≡◌, true, Option}
use Rattle.mg_base.specs.declared.numbers.TxNo.{TxNo}
use Rattle.mg_model.specs.declared.opening.Opening.{Opening}
use Rattle.mg_model.specs.declared.refusal.Refusal.{Refusal}
use Rattle.mg_model.specs.History.{Entries}
use Rattle.mg_records.specs.Crashing.{HoldsOn}
use Rattle.mg_records.specs.Keeping.{FindsNoDamage}
use Rattle.mg_records.specs.Meaning.{Means}
use Rattle.mg_calls.specs.Frames.{Frames}
use Rattle.mg_transcript.specs.Courses.{Course}
use Rattle.mg_transcript.specs.Steps.{Steps}
use Rattle.mg_courses.specs.declared.statements.Stepped.{Stepped}
use Rattle.mg_courses.specs.declared.work.Work.TheVariants as works
use Rattle.mg_courses.specs.Carrying.{is_quiet, HoldsStill, LeavesHolding}
use Rattle.mg_courses.specs.CarryLaws.{carries_by}
use Rattle.mg_courses.specs.QuietLaws.{steps_quiet}
use Rattle.mg_courses.specs.Running.{RunMeans, StepDone, IsTold}
use Rattle.mg_courses.specs.Working.{IsWorkTold, WorkDone}
use Rattle.mg_courses.specs.declared.statements.Stepped.TheVariants.{More, Waits, Ended}
use Rattle.mg_transcript.specs.Courses.{Comes, Later, Parks, Ends}

told_so : {R Run : Type 0} (runs : RunMeans R Run) (new : R) (o : Opening) (after : Entries) (t : TxNo)
    (run : Run) (stepped : Stepped) (comes : Comes) → IsTold runs new o after t run stepped comes
    → IsWorkTold runs new o after t (works.Statement run) stepped comes
told_so runs new o after t run More (Later course) told = told
told_so runs new o after t run More (Parks on course) told = absurd told
told_so runs new o after t run More (Ends reply) told = absurd told
told_so runs new o after t run (Waits on) (Later course) told = absurd told
told_so runs new o after t run (Waits on) (Parks by course) told = told
told_so runs new o after t run (Waits on) (Ends reply) told = absurd told
told_so runs new o after t run (Ended ending) (Later course) told = absurd told
told_so runs new o after t run (Ended ending) (Parks by course) told = absurd told
told_so runs new o after t run (Ended ending) (Ends reply) told = told

pub statement_done : {R P Run : Type 0} (m : Means R P) (runs : RunMeans R Run) → HoldsOn m
    → (old new : R) (o : Opening) (h : Entries) (t : TxNo) (course : Course) (run : Run)
    (stepped : Stepped) (refusal : Option Refusal) → is_quiet course ≡ true
    → Frames m old new t.0 refusal → HoldsStill m old new → FindsNoDamage m old new
    → LeavesHolding m old new o h
    → StepDone m runs new o h t course run stepped
    → WorkDone m runs old new o h t (works.Statement run) stepped (Steps o h t course)
statement_done m runs lasts old new o h t course run stepped refusal quiet frames still undamaged leaves done = record {
  after = done.after;
  comes = done.comes;
  does = done.steps;
  stands = done.stands;
  told = told_so runs new o done.after t run stepped done.comes done.told;
  active = done.active;
  carries = carries_by m lasts old new o h done.after (steps_quiet quiet done.steps) frames.tells frames.time
      (still o h) undamaged leaves;
}
