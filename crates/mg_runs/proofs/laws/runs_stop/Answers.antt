use Rattle.mg_runs.specs.EndLaws.{runs_stop}
use Rattle.mg_runs.specs.WithinLaws.{leaves_within}
use Rattle.mg_runs.proofs.laws.runs_stop.Goals as goal

pub returns : goal.returns
returns g c = λ places. runs_stop g.D.Disk.meaning places g.K.Sink.meaning g.met.D.Disk.counts_now
    c.new_databases_begin.ensures c.histories_go_on.ensures.begins c.catalogs_grow.ensures.own
    (leaves_within g.D.Disk.meaning g.met.D.GrowingDisk.never_shrinks g.met.D.Disk.holds g.met.D.Disk.counted)
