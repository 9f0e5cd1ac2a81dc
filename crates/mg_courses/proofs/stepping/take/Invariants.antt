use Rattle.mg_courses.proofs.SoFar.{TakesOn, DoneBy, SoFar}
use Rattle.mg_courses.proofs.stepping.take.Given as goal

abbrev pub invariant-loop-alloc : goal.invariant-loop-alloc
invariant-loop-alloc g l = record {
  so_far : SoFar g.R.Records.meaning g.R.Statements.runs l.fn.r l.r l.t l.work l.stepped;
  done : DoneBy g.R.Records.meaning g.R.Statements.runs l.fn.r l.r l.t l.fn.work l.work l.stepped (TakesOn l.most l.left);
}

abbrev pub decreases-loop-alloc : goal.decreases-loop-alloc
decreases-loop-alloc g l = l.left
