use Rattle.mg_exec.proofs.GiveLemmas.{statements_go_on, statements_stay_ready}
use Rattle.mg_exec.proofs.laws.statements_go_on_beside_others.Goals as goal

pub returns-clause-stand : goal.returns-clause-stand
returns-clause-stand g c = statements_go_on g.R.Records.meaning

pub returns-clause-ready : goal.returns-clause-ready
returns-clause-ready g c = statements_stay_ready g.R.Records.meaning
