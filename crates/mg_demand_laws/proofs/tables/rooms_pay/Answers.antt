use Rattle.mg_space.specs.declared.links.FireLinks.{FireLinks}
use Rattle.mg_demand_laws.specs.PartLaws.{place_part, record_part, room_part, version_part}
use Rattle.mg_demand_laws.proofs.tables.rooms_pay.Goals as goal

pub returns-clause-room : goal.returns-clause-room
returns-clause-room g c = room_part g.row.D.Denot FireLinks

pub returns-clause-place : goal.returns-clause-place
returns-clause-place g c = place_part g.row.D.Denot FireLinks

pub returns-clause-made : goal.returns-clause-made
returns-clause-made g c = record_part g.row.D.Denot FireLinks

pub returns-clause-pushed : goal.returns-clause-pushed
returns-clause-pushed g c = version_part g.row.D.Denot FireLinks
