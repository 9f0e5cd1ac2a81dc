use Rattle.mg_runs.specs.Entry.{limit_on}
use Rattle.std.proofs.Common.{◌≡◌, List, sym, subst}
use Rattle.mg_base.specs.Streams.{SourceMeaning}
use Rattle.mg_script.specs.declared.line.Line.{Line}
use Rattle.mg_run_ends.specs.Reading.{IsWholeScript}
use Rattle.mg_program.proofs.RunLemmas.{served_files, served_promise, served_script, served_streams, unread_disk, unread_files, unread_promise, unread_script, unread_streams}
use Rattle.mg_program.proofs.running.run.Goals as goal

-- the lines that are obeyed are those that were read
lines_read : {S : Type 0} (s : SourceMeaning S) (source : S) (given read : List Line) → given ≡ read
    → IsWholeScript s source read → IsWholeScript s source given
lines_read s source given read same whole = subst (IsWholeScript s source) (sym same) whole

pub serve-requires-clause-obeyable : goal.serve-requires-clause-obeyable
serve-requires-clause-obeyable g c =
    let whole = lines_read g.S.Source.meaning c.args.source.now c.as_slice.result.now c.in-Ok.script c.as_slice.ensures
    c.in-Ok.ensures.0 in
    c.lines_of_scripts_can_be_obeyed.ensures whole.text c.as_slice.result.now whole.is_script

pub returns-in-Ok-clause-disk : goal.returns-in-Ok-clause-disk
returns-in-Ok-clause-disk g c = c.serve.ensures.disk

pub returns-in-Ok-clause-most_writes : goal.returns-in-Ok-clause-most_writes
returns-in-Ok-clause-most_writes g c = c.serve.ensures.most_writes

pub returns-in-Ok-clause-streams : goal.returns-in-Ok-clause-streams
returns-in-Ok-clause-streams g c =
    let whole = lines_read g.S.Source.meaning c.args.source.now c.as_slice.result.now c.in-Ok.script c.as_slice.ensures
    c.in-Ok.ensures.0 in
    served_streams g.D.Disk.meaning g.S.Source.meaning g.K.Sink.meaning c.args.source.now c.read_lines.new.source
    c.args.limit c.as_slice.result.now c.args.disk c.serve.result.1 c.args.sink.now c.serve.new.sink c.serve.result.0 whole
    c.in-Ok.ensures.1 c.serve.ensures

pub returns-in-Ok-clause-script : goal.returns-in-Ok-clause-script
returns-in-Ok-clause-script g c =
    let whole = lines_read g.S.Source.meaning c.args.source.now c.as_slice.result.now c.in-Ok.script c.as_slice.ensures
    c.in-Ok.ensures.0 in
    served_script g.D.Disk.meaning g.S.Source.meaning g.K.Sink.meaning c.args.source.now c.read_lines.new.source
    c.args.limit c.as_slice.result.now c.args.disk c.serve.result.1 c.args.sink.now c.serve.new.sink c.serve.result.0 whole
    c.in-Ok.ensures.1 c.serve.ensures

pub returns-in-Ok-clause-headline : goal.returns-in-Ok-clause-headline
returns-in-Ok-clause-headline g c = λ size image o script entry left.
    let whole = lines_read g.S.Source.meaning c.args.source.now c.as_slice.result.now c.in-Ok.script c.as_slice.ensures
    c.in-Ok.ensures.0 in
    served_promise g.D.Disk.meaning g.S.Source.meaning g.K.Sink.meaning c.args.source.now c.read_lines.new.source
    c.args.limit c.as_slice.result.now c.args.disk c.serve.result.1 c.args.sink.now c.serve.new.sink c.serve.result.0 whole
    c.in-Ok.ensures.1 c.serve.ensures size image o script entry left

pub returns-in-Ok-clause-other_files : goal.returns-in-Ok-clause-other_files
returns-in-Ok-clause-other_files g c =
    let whole = lines_read g.S.Source.meaning c.args.source.now c.as_slice.result.now c.in-Ok.script c.as_slice.ensures
    c.in-Ok.ensures.0 in
    served_files g.D.Disk.meaning g.S.Source.meaning g.K.Sink.meaning c.args.source.now c.read_lines.new.source
    c.args.limit c.as_slice.result.now c.args.disk c.serve.result.1 c.args.sink.now c.serve.new.sink c.serve.result.0 whole
    c.in-Ok.ensures.1 c.serve.ensures

pub returns-in-Err-clause-disk : goal.returns-in-Err-clause-disk
returns-in-Err-clause-disk g c = unread_disk g.D.Disk.meaning g.S.Source.meaning g.K.Sink.meaning c.args.source.now
    c.read_lines.new.source c.args.disk c.args.sink.now c.say_end.new.sink c.in-Err.end c.say_end.result
    c.in-Err.ensures c.say_end.ensures

pub returns-in-Err-clause-streams : goal.returns-in-Err-clause-streams
returns-in-Err-clause-streams g c = unread_streams g.D.Disk.meaning g.S.Source.meaning g.K.Sink.meaning
    c.args.source.now c.read_lines.new.source c.args.disk c.args.sink.now c.say_end.new.sink c.in-Err.end
    c.say_end.result c.in-Err.ensures c.say_end.ensures

pub returns-in-Err-clause-script : goal.returns-in-Err-clause-script
returns-in-Err-clause-script g c = unread_script g.D.Disk.meaning g.S.Source.meaning g.K.Sink.meaning
    c.args.source.now c.read_lines.new.source c.args.disk c.args.sink.now c.say_end.new.sink c.in-Err.end
    c.say_end.result c.in-Err.ensures c.say_end.ensures

pub returns-in-Err-clause-headline : goal.returns-in-Err-clause-headline
returns-in-Err-clause-headline g c = λ size image o script entry left. unread_promise g.D.Disk.meaning
    g.S.Source.meaning g.K.Sink.meaning c.args.source.now c.read_lines.new.source c.args.disk c.args.sink.now
    c.say_end.new.sink c.in-Err.end c.say_end.result c.in-Err.ensures c.say_end.ensures size (limit_on c.args.limit image) o script

pub returns-in-Err-clause-other_files : goal.returns-in-Err-clause-other_files
returns-in-Err-clause-other_files g c = λ size image other. unread_files g.D.Disk.meaning g.S.Source.meaning
    g.K.Sink.meaning c.args.source.now c.read_lines.new.source c.args.disk c.args.sink.now c.say_end.new.sink
    c.in-Err.end c.say_end.result c.in-Err.ensures c.say_end.ensures size image
