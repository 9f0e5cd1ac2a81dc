use Rattle.mg_engine.proofs.ChangingLemmas.{noted_writes}
use Rattle.mg_engine.proofs.changing.write_row.Goals as goal

pub returns-in-Ok-clause-writes : goal.returns-in-Ok-clause-writes
returns-in-Ok-clause-writes g c = noted_writes g.D.Disk.meaning c.args.core.now c.note_keys_first.new.core
    c.write_noted.new.core c.args.t c.args.table.now c.args.write.now c.write_noted.result c.note_keys_first.ensures.core
    c.in-Ok.ensures.notes c.write_noted.ensures.writes
