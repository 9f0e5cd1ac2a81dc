use Rattle.mg_space.specs.declared.links.FireLinks.{FireLinks}
use Rattle.mg_demand_laws.specs.WriteLaws.{lasts_as_before, writes_bear, writes_go}
use Rattle.mg_demand_laws.proofs.writes.page_writes_bear.Goals as goal

pub returns-clause-go : goal.returns-clause-go
returns-clause-go g c = writes_go g.row.D.Denot FireLinks g.D.Disk.meaning

pub returns-clause-bear : goal.returns-clause-bear
returns-clause-bear g c = writes_bear g.row.D.Denot FireLinks g.D.Disk.meaning c.runs_bear.ensures.runs

pub returns-clause-same : goal.returns-clause-same
returns-clause-same g c = lasts_as_before g.row.D.Denot FireLinks
