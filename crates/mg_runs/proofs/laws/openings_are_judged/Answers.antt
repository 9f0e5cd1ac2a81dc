use Rattle.mg_runs.specs.OpeningLaws.{openings_are_judged}
use Rattle.mg_runs.specs.WithinLaws.{leaves_held}
use Rattle.mg_runs.proofs.laws.openings_are_judged.Goals as goal

pub returns : goal.returns
returns g c = openings_are_judged g.D.Disk.meaning g.K.Sink.meaning g.met.D.Disk.counts_now
    c.new_databases_begin.ensures c.histories_go_on.ensures.begins c.catalogs_grow.ensures.own
    (leaves_held g.D.Disk.meaning g.met.D.GrowingDisk.never_shrinks g.met.D.Disk.holds)
