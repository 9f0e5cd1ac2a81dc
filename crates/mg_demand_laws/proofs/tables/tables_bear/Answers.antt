use Rattle.mg_space.specs.declared.links.FireLinks.{FireLinks}
use Rattle.mg_demand_laws.specs.KeepingTies.{move_keeps, news_bear, out_keeps, over_keeps, part_keeps, tables_bear}
use Rattle.mg_demand_laws.proofs.tables.tables_bear.Goals as goal

pub returns-clause-part : goal.returns-clause-part
returns-clause-part g c = part_keeps g.row.D.Denot FireLinks

pub returns-clause-moved : goal.returns-clause-moved
returns-clause-moved g c = move_keeps g.row.D.Denot FireLinks

pub returns-clause-over : goal.returns-clause-over
returns-clause-over g c = over_keeps g.row.D.Denot FireLinks

pub returns-clause-out : goal.returns-clause-out
returns-clause-out g c = out_keeps g.row.D.Denot FireLinks

pub returns-clause-changed : goal.returns-clause-changed
returns-clause-changed g c = tables_bear g.row.D.Denot FireLinks g.D.Disk.meaning c.runs_bear.ensures.both
    c.runs_bear.ensures.exactly

pub returns-clause-news : goal.returns-clause-news
returns-clause-news g c = news_bear g.row.D.Denot FireLinks g.D.Disk.meaning c.runs_bear.ensures.both
    c.runs_bear.ensures.exactly
