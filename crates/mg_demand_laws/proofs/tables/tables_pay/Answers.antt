use Rattle.mg_space.specs.declared.links.FireLinks.{FireLinks}
use Rattle.mg_demand_laws.specs.FillTies.{fill_pays}
use Rattle.mg_demand_laws.proofs.tables.tables_pay.Goals as goal

pub returns : goal.returns
returns g c = fill_pays g.row.D.Denot FireLinks
