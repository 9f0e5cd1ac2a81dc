use Rattle.mg_space.specs.declared.links.FireLinks.{FireLinks}
use Rattle.mg_demand_laws.specs.MoveChains.{move_is_known}
use Rattle.mg_demand_laws.specs.OwnChains.{out_is_known}
use Rattle.mg_demand_laws.proofs.chains.own_versions_are_unled.Goals as goal

pub returns-clause-out : goal.returns-clause-out
returns-clause-out g c = out_is_known g.row.D.Denot FireLinks

pub returns-clause-moved : goal.returns-clause-moved
returns-clause-moved g c = move_is_known g.row.D.Denot FireLinks
