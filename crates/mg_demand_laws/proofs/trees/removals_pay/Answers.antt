use Rattle.mg_demand_laws.specs.CallTies.{removals_pay as pays}
use Rattle.mg_demand_laws.proofs.trees.removals_pay.Goals as goal

pub returns : goal.returns
returns c = pays
