use Rattle.std.specs.Prelude.{None, Some}
use Rattle.mg_program.proofs.TopLemmas.{runs_asked}
use Rattle.mg_program.specs.Top.{limit_asked}
use Rattle.mg_program.proofs.top.run_asked.Goals as goal

pub returns-in-None : goal.returns-in-None
returns-in-None g c = runs_asked g.D.Disk.meaning g.D.CountsWrites.counts_to g.S.Source.meaning g.K.Sink.meaning
    c.unwrap_or-limit.result (limit_asked c.args.asked) None c.args.asked.stop c.args.source.now c.run.new.source
    c.args.disk c.run.result.1 c.args.sink.now c.run.new.sink c.run.result.0 c.unwrap_or-limit.ensures c.in-None.is
    (record {
      disk = c.run.ensures.disk;
      streams = c.run.ensures.streams;
      script = c.run.ensures.script;
      headline = c.run.ensures.headline;
      other_files = c.run.ensures.other_files;
    })

pub returns-in-Some : goal.returns-in-Some
returns-in-Some g c = runs_asked g.D.Disk.meaning g.D.CountsWrites.counts_to g.S.Source.meaning g.K.Sink.meaning
    c.unwrap_or-limit.result (limit_asked c.args.asked) (Some c.in-Some.most) c.args.asked.stop c.args.source.now
    c.run_stopped.new.source c.args.disk c.run_stopped.result.1 c.args.sink.now c.run_stopped.new.sink
    c.run_stopped.result.0 c.unwrap_or-limit.ensures c.in-Some.is c.run_stopped.ensures
