use Rattle.mg_transcript.specs.Lines.{last_reply}
use Rattle.mg_transcript.specs.Transcript.{flow, turn_of}
use Rattle.mg_scripts.specs.FaultLines.{fault_said}
use Rattle.mg_scripts.proofs.SinkLemmas.{line_says}
use Rattle.mg_scripts.proofs.TurnLemmas.{obeyable_lettered, taken_account, taken_line}
use Rattle.mg_scripts.proofs.lines.take_line.Goals as goal

pub print_turn-failed-requires-clause-lettered : goal.print_turn-failed-requires-clause-lettered
print_turn-failed-requires-clause-lettered g c = obeyable_lettered c.args.line.now.kind c.requires.obeyable

pub returns-clause-done : goal.returns-clause-done
returns-clause-done g c = λ o h us stand. taken_line g.R.Records.meaning g.R.Statements.runs g.K.Sink.meaning
    c.args.r.now c.take_turn-taken.new.r c.args.sink.now c.print_turn-failed.new.sink c.args.line.now
    c.take_turn-taken.result.turn.reply c.take_turn-taken.result.turn.released.items c.take_turn-taken.result.end
    c.print_turn-failed.result c.print_turn-failed.ensures c.end_with.result c.end_with.ensures o c.args.size h us
    c.take_turn-taken.new.sessions.transactions c.take_turn-taken.new.sessions.pending.items c.is_turn_fine.result
    c.is_turn_fine.ensures (c.take_turn-taken.ensures.does o h us stand)

pub returns-clause-accounts : goal.returns-clause-accounts
returns-clause-accounts g c = taken_account g.R.Records.meaning g.R.Statements.runs g.K.Sink.meaning
    c.args.r.now c.take_turn-taken.new.r c.args.sink.now c.print_turn-failed.new.sink c.args.line.now
    c.take_turn-taken.result.turn.reply c.take_turn-taken.result.turn.released.items c.take_turn-taken.result.end
    c.print_turn-failed.result c.print_turn-failed.ensures c.end_with.result c.end_with.ensures
    c.take_turn-taken.ensures.stopped c.take_turn-taken.ensures.accounts

pub returns-clause-sinks : goal.returns-clause-sinks
returns-clause-sinks g c = line_says g.K.Sink.meaning c.args.sink.now c.print_turn-failed.new.sink
    (turn_of c.args.line.now c.take_turn-taken.result.turn.reply c.take_turn-taken.result.turn.released.items)
    (fault_said c.args.line.now c.take_turn-taken.result.turn.reply c.take_turn-taken.result.turn.released.items)
    c.take_turn-taken.result.end c.print_turn-failed.result c.end_with.result
    (flow (last_reply c.take_turn-taken.result.turn.reply c.take_turn-taken.result.turn.released.items))
    c.end_with.ensures c.print_turn-failed.ensures
