use Rattle.mg_taking_back.proofs.NotedLemmas.{noting_fails, written_from}
use Rattle.mg_taking_back.proofs.noting.write_noted.Goals as goal

pub returns-in-Ok-clause-writes : goal.returns-in-Ok-clause-writes
returns-in-Ok-clause-writes g c = written_from g.D.Disk.meaning c.args.core.now c.note_written.new.core c.args.t
    c.args.table.now c.in-Ok.ensures.notes.1 c.write_step.new.self c.args.write.now c.write_step.result
    c.write_step.ensures.writes

pub returns-in-Err-clause-writes : goal.returns-in-Err-clause-writes
returns-in-Err-clause-writes g c = noting_fails g.D.Disk.meaning c.args.core.now c.note_written.new.core c.args.t
    c.args.table.now c.args.write.now c.in-Err.refusal c.in-Err.ensures.notes
