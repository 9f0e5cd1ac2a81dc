use Rattle.mg_survey.specs.Survey.{HasTested}
use Rattle.mg_survey.proofs.disk.are_unmade.Given as goal

-- the pages behind page 0 up to this one were read, a database may be made on each, and no call has failed
abbrev pub invariant-loop-n : goal.invariant-loop-n
invariant-loop-n g l = HasTested g.D.Disk.meaning l.fn.disk l.disk l.size l.pages l.n
