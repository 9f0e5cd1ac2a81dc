use Rattle.mg_engine_meaning_laws.specs.RollbackLaws.{rollbacks_go_on}
use Rattle.mg_engine_meaning_laws.proofs.endings.rollbacks_go_on.Goals as goal

pub returns : goal.returns
returns g c = rollbacks_go_on g.row.D.Denot g.row.L.Denot g.D.Disk.meaning c.one_reading.ensures.packed_rows
    c.catalogs_grow.ensures.seen c.versions_go_on.ensures.die c.memory_follows.ensures.tables
    c.histories_go_on.ensures.begins c.batches_last.ensures.pool c.entries_go_on.ensures.rollback
    c.page_writes_go_on.ensures.otherwise c.standings_go_on.ensures
