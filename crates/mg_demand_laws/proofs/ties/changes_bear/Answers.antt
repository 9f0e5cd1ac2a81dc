use Rattle.mg_space.specs.declared.links.FireLinks.{FireLinks}
use Rattle.mg_demand_laws.specs.PoolTies.{changes_bear}
use Rattle.mg_demand_laws.proofs.ties.changes_bear.Goals as goal

pub returns : goal.returns
returns g c = changes_bear g.row.D.Denot FireLinks g.D.Disk.meaning c.runs_bear.ensures.both c.runs_bear.ensures.batch
