use Rattle.mg_demand_laws.specs.CommitDemands.{ends_pay}
use Rattle.mg_demand_laws.proofs.batches.ends_pay.Goals as goal

pub returns : goal.returns
returns c = ends_pay
