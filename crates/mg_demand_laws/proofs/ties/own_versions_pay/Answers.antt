use Rattle.mg_space.specs.declared.links.FireLinks.{FireLinks}
use Rattle.mg_demand_laws.specs.MoveTies.{move_pays}
use Rattle.mg_demand_laws.specs.OwnTies.{out_pays, over_pays}
use Rattle.mg_demand_laws.proofs.ties.own_versions_pay.Goals as goal

pub returns-clause-over : goal.returns-clause-over
returns-clause-over g c = over_pays g.row.D.Denot FireLinks

pub returns-clause-moved : goal.returns-clause-moved
returns-clause-moved g c = move_pays g.row.D.Denot FireLinks

pub returns-clause-out : goal.returns-clause-out
returns-clause-out g c = out_pays g.row.D.Denot FireLinks
