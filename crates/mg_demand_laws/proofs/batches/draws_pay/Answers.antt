use Rattle.mg_demand_laws.specs.DrawDemands.{draws_pay}
use Rattle.mg_demand_laws.proofs.batches.draws_pay.Goals as goal

pub returns : goal.returns
returns c = draws_pay
