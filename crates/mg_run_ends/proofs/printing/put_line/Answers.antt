use Rattle.mg_run_ends.proofs.PrintLemmas.{printed_by_puts}
use Rattle.mg_run_ends.proofs.printing.put_line.Goals as goal

pub returns : goal.returns
returns g c = printed_by_puts g.K.Sink.meaning c.args.sink.now c.put.new.self c.args.line.now c.put.result c.put.ensures
