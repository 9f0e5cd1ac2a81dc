use Rattle.std.proofs.Common.{sym, arith}
use Rattle.std.proofs.lemmas.Bool.{eq-eqb}
use Rattle.mg_engine.specs.Places.{places}
use Rattle.mg_program.proofs.ServingLemmas.{obeyed, unbegun}
use Rattle.mg_program.proofs.serving.obey.Goals as goal

pub run_script-ran-requires-clause-size : goal.run_script-ran-requires-clause-size
run_script-ran-requires-clause-size g c =
    eq-eqb c.args.engine.store.geometry.size c.page_size-size.result (sym c.page_size-size.ensures)

pub run_script-ran-requires-clause-free : goal.run_script-ran-requires-clause-free
run_script-ran-requires-clause-free g c = c.requires.free

pub run_script-ran-requires-clause-room : goal.run_script-ran-requires-clause-room
run_script-ran-requires-clause-room g c =
    let none = c.in-Ok.ensures.len in let room = c.in-Ok.ensures.capacity in omega (arith, none, room)

pub run_script-ran-requires-clause-none : goal.run_script-ran-requires-clause-none
run_script-ran-requires-clause-none g c = c.in-Ok.ensures.items

pub returns-in_default : goal.returns-in_default
returns-in_default g c = λ disk limit opened. c.end_run.ensures disk limit c.args.sink.now c.args.lines.now
    (unbegun g.D.Disk.meaning places g.K.Sink.meaning c.args.lines.now disk limit c.args.engine c.args.sink.now opened)

pub returns : goal.returns
returns g c = λ disk limit opened. c.end_run-2.ensures disk limit c.args.sink.now c.args.lines.now
    (obeyed g.D.Disk.meaning places g.K.Sink.meaning c.args.lines.now disk limit c.args.engine c.run_script-ran.new.r
    c.args.sink.now c.run_script-ran.new.sink c.as_slice.result.now c.run_script-ran.new.refusals.items
    c.run_script-ran.result.end c.run_script-ran.result.fine c.page_size-size.result c.as_slice.ensures.value
    c.page_size-size.ensures c.runs_begin.ensures opened
    c.run_script-ran.ensures.accounts c.run_script-ran.ensures.sinks
    c.run_script-ran.ensures.done)
