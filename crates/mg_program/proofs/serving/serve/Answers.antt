use Rattle.mg_program.proofs.ServingLemmas.{refused}
use Rattle.mg_program.proofs.serving.serve.Goals as goal

pub obey-requires-clause-free : goal.obey-requires-clause-free
obey-requires-clause-free g c = c.in-Ok.ensures.free

pub returns-in-Ok : goal.returns-in-Ok
returns-in-Ok g c = c.obey.ensures c.args.disk c.args.limit c.in-Ok.ensures

pub returns-in-Err : goal.returns-in-Err
returns-in-Err g c = refused g.D.Disk.meaning g.K.Sink.meaning c.args.lines.now c.args.disk c.in-Err.disk c.args.limit
    c.in-Err.refusal c.say_end.result c.args.sink.now c.say_end.new.sink c.openings_are_judged.ensures
    c.other_files_are_refused.ensures.refused c.openings_fail.ensures c.in-Err.ensures c.say_end.ensures
