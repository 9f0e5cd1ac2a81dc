use Rattle.mg_engine_demand_laws.specs.FateLaws.{asking_keeps, committing_keeps, telling_keeps}
use Rattle.mg_engine_demand_laws.proofs.laws.fates_keep.Goals as goal

pub returns-clause-told : goal.returns-clause-told
returns-clause-told c = telling_keeps

pub returns-clause-asked : goal.returns-clause-asked
returns-clause-asked c = asking_keeps c.all_is_borne.ensures.writes c.runs_bear.ensures.both

pub returns-clause-committed : goal.returns-clause-committed
returns-clause-committed c = committing_keeps c.commits_settle.ensures.settles
