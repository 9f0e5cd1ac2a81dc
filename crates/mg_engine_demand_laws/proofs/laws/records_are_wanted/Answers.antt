use Rattle.mg_engine_demand_laws.specs.RecordLaws.{behind_have_committed, records_are_wanted}
use Rattle.mg_engine_demand_laws.proofs.laws.records_are_wanted.Goals as goal

pub returns-clause-records : goal.returns-clause-records
returns-clause-records c = records_are_wanted

pub returns-clause-behind : goal.returns-clause-behind
returns-clause-behind c = behind_have_committed
