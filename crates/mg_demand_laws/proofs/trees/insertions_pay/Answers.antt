use Rattle.mg_demand_laws.specs.CallTies.{insertions_pay as pays}
use Rattle.mg_demand_laws.specs.TakenTies.{taking_rows_pay}
use Rattle.mg_demand_laws.proofs.trees.insertions_pay.Goals as goal

pub returns-clause-row : goal.returns-clause-row
returns-clause-row c = taking_rows_pay

pub returns-clause-call : goal.returns-clause-call
returns-clause-call c = pays
