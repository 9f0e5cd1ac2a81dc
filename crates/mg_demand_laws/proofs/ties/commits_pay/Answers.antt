use Rattle.mg_space.specs.declared.links.FireLinks.{FireLinks}
use Rattle.mg_demand_laws.specs.EndTies.{commit_pays}
use Rattle.mg_demand_laws.proofs.ties.commits_pay.Goals as goal

pub returns : goal.returns
returns g c = commit_pays g.row.D.Denot FireLinks g.D.Disk.meaning
