use Rattle.mg_space.specs.declared.links.FireLinks.{FireLinks}
use Rattle.mg_demand_laws.specs.PoolTies.{step_changes_bear}
use Rattle.mg_demand_laws.proofs.ties.step_changes_bear.Goals as goal

pub returns : goal.returns
returns g c = step_changes_bear g.row.D.Denot FireLinks g.D.Disk.meaning c.steps_bear.ensures
