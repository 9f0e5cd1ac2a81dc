use Rattle.mg_exec.proofs.ReadLemmas.{row_fault}
use Rattle.mg_exec.proofs.reading.keep_row.Goals as goal

pub returns-in-Err : goal.returns-in-Err
returns-in-Err g c =
    row_fault c.args.reading c.args.keyed c.args.reading.kept.items
    c.keep_passed.new.kept.items c.in-Err.fault c.from.result c.stop.result c.from.ensures c.stop.ensures
    c.in-Err.ensures
