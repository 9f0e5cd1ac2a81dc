use Rattle.mg_engine_meaning_laws.specs.ComposeLaws.{left_taken_up, runs_compose}
use Rattle.mg_engine_meaning_laws.proofs.openings.runs_compose.Goals as goal

pub returns-clause-left : goal.returns-clause-left
returns-clause-left g c = left_taken_up g.row.D.Denot g.D.Disk.meaning g.met.D.Disk.counts_now
    c.histories_go_on.ensures.begins c.catalogs_grow.ensures.own

pub returns-clause-closed : goal.returns-clause-closed
returns-clause-closed g c = runs_compose g.row.D.Denot g.D.Disk.meaning g.met.D.Disk.counts_now
    c.histories_go_on.ensures.begins c.catalogs_grow.ensures.own
