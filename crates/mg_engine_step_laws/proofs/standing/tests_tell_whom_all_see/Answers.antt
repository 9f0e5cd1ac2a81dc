use Rattle.mg_engine_step_laws.specs.standing.BasedLaws.{tests_all}
use Rattle.mg_engine_step_laws.proofs.standing.tests_tell_whom_all_see.Goals as goal

pub returns : goal.returns
returns c = tests_all
