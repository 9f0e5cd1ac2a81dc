use Rattle.mg_space.specs.declared.links.FireLinks.{FireLinks}
use Rattle.mg_engine_demand_laws.specs.StoreLaws.{page_writes_keep, reads_keep, store_changes_keep}
use Rattle.mg_engine_demand_laws.proofs.stores.stores_keep.Goals as goal

pub returns-clause-reads : goal.returns-clause-reads
returns-clause-reads g c = reads_keep g.row.D.Denot FireLinks g.D.Disk.meaning

pub returns-clause-writes : goal.returns-clause-writes
returns-clause-writes g c = page_writes_keep g.row.D.Denot FireLinks g.D.Disk.meaning c.caches_keep.ensures.writes

pub returns-clause-changes : goal.returns-clause-changes
returns-clause-changes g c = store_changes_keep g.row.D.Denot FireLinks g.D.Disk.meaning c.caches_keep.ensures.batches
