use Rattle.mg_demand_laws.specs.SettleTies.{commit_settles, writes_last}
use Rattle.mg_demand_laws.proofs.ties.commits_settle.Goals as goal

pub returns-clause-writes : goal.returns-clause-writes
returns-clause-writes c = writes_last c.all_is_borne.ensures.writes

pub returns-clause-settles : goal.returns-clause-settles
returns-clause-settles c = commit_settles
