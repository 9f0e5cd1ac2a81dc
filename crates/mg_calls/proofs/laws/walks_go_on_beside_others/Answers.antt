use Rattle.mg_calls.specs.WalkLaws.{walks_go_on, walks_stay_ready}
use Rattle.mg_calls.proofs.laws.walks_go_on_beside_others.Goals as goal

pub returns-clause-come : goal.returns-clause-come
returns-clause-come g c = walks_go_on g.R.Records.meaning

pub returns-clause-ready : goal.returns-clause-ready
returns-clause-ready g c = walks_stay_ready g.R.Records.meaning
