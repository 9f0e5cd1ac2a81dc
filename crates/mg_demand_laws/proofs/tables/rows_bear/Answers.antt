use Rattle.mg_space.specs.declared.links.FireLinks.{FireLinks}
use Rattle.mg_demand_laws.specs.UnmakingTies.{rows_bear}
use Rattle.mg_demand_laws.proofs.tables.rows_bear.Goals as goal

pub returns : goal.returns
returns g c = rows_bear g.row.D.Denot FireLinks g.D.Disk.meaning c.step_changes_bear.ensures
