use Rattle.mg_space.specs.declared.links.FireLinks.{FireLinks}
use Rattle.mg_engine_demand_laws.specs.NumberLaws.{commits_keep, draws_keep}
use Rattle.mg_engine_demand_laws.proofs.stores.numbers_keep.Goals as goal

pub returns-clause-drawn : goal.returns-clause-drawn
returns-clause-drawn g c = draws_keep g.row.D.Denot FireLinks g.D.Disk.meaning c.stores_keep.ensures.changes

pub returns-clause-committed : goal.returns-clause-committed
returns-clause-committed g c = commits_keep g.row.D.Denot FireLinks g.D.Disk.meaning c.stores_keep.ensures.changes
    c.stores_keep.ensures.writes c.commits_settle.ensures.settles
