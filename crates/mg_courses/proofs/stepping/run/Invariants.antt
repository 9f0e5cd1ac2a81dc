use Rattle.mg_courses.proofs.SoFar.{RunsOn, DoneBy, SoFar, left_of}
use Rattle.mg_courses.proofs.stepping.run.Given as goal

abbrev pub invariant-loop-alloc : goal.invariant-loop-alloc
invariant-loop-alloc g l = record {
  so_far : SoFar g.R.Records.meaning g.R.Statements.runs l.fn.r l.r l.t l.work l.stepped;
  done : DoneBy g.R.Records.meaning g.R.Statements.runs l.fn.r l.r l.t l.fn.work l.work l.stepped RunsOn;
}

abbrev pub decreases-loop-alloc : goal.decreases-loop-alloc
decreases-loop-alloc g l = left_of g.R.Records.meaning g.R.Statements.runs l.r l.t l.work l.stepped
