use Rattle.mg_space.specs.declared.links.FireLinks.{FireLinks}
use Rattle.mg_demand_laws.specs.MoveChains.{move_stays}
use Rattle.mg_demand_laws.specs.OwnChains.{out_stays, over_chained}
use Rattle.mg_demand_laws.specs.RoomChains.{rooms_chained}
use Rattle.mg_demand_laws.specs.WriteChains.{first_chained, push_chained}
use Rattle.mg_demand_laws.proofs.chains.versions_stay_chained.Goals as goal

pub returns-clause-room : goal.returns-clause-room
returns-clause-room g c = rooms_chained g.row.D.Denot FireLinks

pub returns-clause-pushed : goal.returns-clause-pushed
returns-clause-pushed g c = push_chained g.row.D.Denot FireLinks

pub returns-clause-first : goal.returns-clause-first
returns-clause-first g c = first_chained g.row.D.Denot FireLinks

pub returns-clause-over : goal.returns-clause-over
returns-clause-over g c = over_chained g.row.D.Denot FireLinks

pub returns-clause-out : goal.returns-clause-out
returns-clause-out g c = out_stays g.row.D.Denot FireLinks

pub returns-clause-moved : goal.returns-clause-moved
returns-clause-moved g c = move_stays g.row.D.Denot FireLinks
