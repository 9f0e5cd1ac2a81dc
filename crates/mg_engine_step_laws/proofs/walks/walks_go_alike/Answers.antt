use Rattle.mg_engine_step_laws.specs.reads.WalksLaws.{walks_go_alike, walks_stay_over}
use Rattle.mg_engine_step_laws.proofs.walks.walks_go_alike.Goals as goal

pub returns-clause-alike : goal.returns-clause-alike
returns-clause-alike c = walks_go_alike

pub returns-clause-over : goal.returns-clause-over
returns-clause-over c = walks_stay_over
