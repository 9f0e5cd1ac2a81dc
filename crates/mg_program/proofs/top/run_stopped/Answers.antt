use Rattle.mg_program.proofs.TopLemmas.{runs_of_stopped}
use Rattle.mg_program.proofs.top.run_stopped.Goals as goal

pub returns : goal.returns
returns g c = runs_of_stopped g.D.Disk.meaning g.D.CountsWrites.counts_to g.K.Sink.meaning g.S.Source.meaning
    c.args.limit c.args.most c.args.source.now c.run-end.new.source c.args.disk c.into_inner.result c.new.result
    c.run-end.result.1 c.args.sink.now c.run-end.new.sink c.run-end.result.0 c.new.ensures c.into_inner.ensures
    c.stopped_disks_are_asked_for_no_more.ensures c.run-end.ensures.most_writes c.run-end.ensures.disk c.run-end.ensures.streams
    c.run-end.ensures.script c.run-end.ensures.headline c.run-end.ensures.other_files
