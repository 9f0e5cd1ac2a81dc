use Rattle.mg_space.specs.declared.links.FireLinks.{FireLinks}
use Rattle.mg_demand_laws.specs.NumberTies.{commit_keeps, draw_keeps}
use Rattle.mg_demand_laws.proofs.tables.numbers_bear.Goals as goal

pub returns-clause-drawn : goal.returns-clause-drawn
returns-clause-drawn g c = draw_keeps

pub returns-clause-committed : goal.returns-clause-committed
returns-clause-committed g c = commit_keeps g.row.D.Denot FireLinks g.D.Disk.meaning
