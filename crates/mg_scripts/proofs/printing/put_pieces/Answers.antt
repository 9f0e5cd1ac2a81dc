use Rattle.mg_scripts.proofs.FaultLemmas.{first_failed, puts_err, puts_ok, second_failed}
use Rattle.mg_scripts.proofs.printing.put_pieces.Goals as goal

pub returns-in_default : goal.returns-in_default
returns-in_default g c = first_failed g.K.Sink.meaning c.args.sink.now c.put.new.self c.args.head.now c.args.text.now
    (puts_err g.K.Sink.meaning c.args.sink.now c.put.new.self c.args.head.now c.put.result c.in_default.field-0
    c.in_default.is c.put.ensures)

pub returns-in-Err : goal.returns-in-Err
returns-in-Err g c = second_failed g.K.Sink.meaning c.args.sink.now c.put.new.self c.put-2.new.self c.args.head.now
    c.args.text.now
    (puts_ok g.K.Sink.meaning c.args.sink.now c.put.new.self c.args.head.now c.put.result c.in-Ok.field-0 c.in-Ok.is
    c.put.ensures)
    (puts_err g.K.Sink.meaning c.put.new.self c.put-2.new.self c.args.text.now c.put-2.result c.in-Err.field-0
    c.in-Err.is c.put-2.ensures)
