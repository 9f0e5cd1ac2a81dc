use Rattle.std.proofs.Common.{sym, ◌∙◌}
use Rattle.mg_engine.specs.Places.{places}
use Rattle.mg_program.proofs.ServingLemmas.{closed, left}
use Rattle.mg_program.proofs.serving.end_run.Goals as goal

pub returns-in-Some : goal.returns-in-Some
returns-in-Some g c = λ disk limit before lines did. left g.D.Disk.meaning places g.K.Sink.meaning limit lines disk
    c.args.engine before c.args.sink.now c.say_end-told.new.sink c.into_disk.result c.args.refusals.now c.args.ran.end
    c.args.ran.fine c.in-Some.end c.say_end-told.result c.into_disk.ensures.disk did
    c.other_files_are_refused.ensures.unopened (c.lines_fail.ensures places)
    (c.runs_stop.ensures places) c.into_disk.ensures.lawful (sym c.cut_end.ensures ∙ c.in-Some.is) c.say_end-told.ensures

pub returns-in-None : goal.returns-in-None
returns-in-None g c = λ disk limit before lines did. closed g.D.Disk.meaning places g.K.Sink.meaning limit lines disk
    c.args.engine before c.args.sink.now c.say_end.new.sink c.close-disk.result.0 c.args.refusals.now c.args.ran.end
    c.args.ran.fine c.close-disk.result.1 c.closed_end.result c.say_end.result did
    c.other_files_are_refused.ensures.unopened (c.closings_fail.ensures places)
    (c.runs_close.ensures places) c.close-disk.ensures.lawful c.close-disk.ensures.closes (sym c.cut_end.ensures ∙ c.in-None.is)
    c.closed_end.ensures c.say_end.ensures
