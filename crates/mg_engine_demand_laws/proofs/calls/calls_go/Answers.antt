use Rattle.mg_engine_demand_laws.specs.CallLaws.{asks_go, begins_go, commits_go, pages_go, reads_go, rollbacks_go, rows_go}
use Rattle.mg_engine_demand_laws.proofs.calls.calls_go.Goals as goal

pub returns-clause-begun : goal.returns-clause-begun
returns-clause-begun g c = begins_go g.row.D.Denot g.D.Disk.meaning

pub returns-clause-asked : goal.returns-clause-asked
returns-clause-asked g c = asks_go g.row.D.Denot g.D.Disk.meaning

pub returns-clause-pages : goal.returns-clause-pages
returns-clause-pages g c = pages_go g.row.D.Denot g.D.Disk.meaning

pub returns-clause-committed : goal.returns-clause-committed
returns-clause-committed g c = commits_go g.row.D.Denot g.D.Disk.meaning

pub returns-clause-back : goal.returns-clause-back
returns-clause-back g c = rollbacks_go g.row.D.Denot g.D.Disk.meaning

pub returns-clause-reads : goal.returns-clause-reads
returns-clause-reads g c = reads_go g.row.D.Denot g.D.Disk.meaning

pub returns-clause-rows : goal.returns-clause-rows
returns-clause-rows g c = rows_go g.row.D.Denot g.D.Disk.meaning c.rows_go.ensures
