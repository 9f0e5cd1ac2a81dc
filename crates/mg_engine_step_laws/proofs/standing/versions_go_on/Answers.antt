use Rattle.mg_engine_step_laws.specs.standing.EndingLaws.{versions_die}
use Rattle.mg_engine_step_laws.specs.standing.VersionsLaws.{versions_follow, versions_stay}
use Rattle.mg_engine_step_laws.specs.standing.WritingLaws.{erased_may_be_silent, writes_follow}
use Rattle.mg_engine_step_laws.proofs.standing.versions_go_on.Goals as goal

pub returns-clause-follow : goal.returns-clause-follow
returns-clause-follow c = versions_follow

pub returns-clause-stay : goal.returns-clause-stay
returns-clause-stay c = versions_stay

pub returns-clause-written : goal.returns-clause-written
returns-clause-written c = writes_follow

pub returns-clause-silent : goal.returns-clause-silent
returns-clause-silent c = erased_may_be_silent

pub returns-clause-die : goal.returns-clause-die
returns-clause-die c = versions_die
