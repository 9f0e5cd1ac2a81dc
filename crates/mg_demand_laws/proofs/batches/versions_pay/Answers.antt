use Rattle.mg_demand_laws.specs.CellDemands.{overwrites_pay, puts_pay, turns_pay, versions_pay}
use Rattle.mg_demand_laws.proofs.batches.versions_pay.Goals as goal

pub returns-clause-put : goal.returns-clause-put
returns-clause-put c = puts_pay

pub returns-clause-turned : goal.returns-clause-turned
returns-clause-turned c = turns_pay

pub returns-clause-written : goal.returns-clause-written
returns-clause-written c = versions_pay

pub returns-clause-over : goal.returns-clause-over
returns-clause-over c = overwrites_pay
