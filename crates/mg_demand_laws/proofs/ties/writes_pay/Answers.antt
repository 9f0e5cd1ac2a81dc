use Rattle.mg_space.specs.declared.links.FireLinks.{FireLinks}
use Rattle.mg_demand_laws.specs.CellTies.{first_pays, push_pays}
use Rattle.mg_demand_laws.proofs.ties.writes_pay.Goals as goal

pub returns-clause-push : goal.returns-clause-push
returns-clause-push g c = push_pays g.row.D.Denot FireLinks

pub returns-clause-first : goal.returns-clause-first
returns-clause-first g c = first_pays g.row.D.Denot FireLinks
