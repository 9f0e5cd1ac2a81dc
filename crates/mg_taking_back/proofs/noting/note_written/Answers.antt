use Rattle.mg_taking_back.specs.CoreLaws.{core_noted}
use Rattle.mg_taking_back.proofs.noting.note_written.Goals as goal

pub returns-in-Ok-note_in-clause-core : goal.returns-in-Ok-note_in-clause-core
returns-in-Ok-note_in-clause-core g c = core_noted g.D.Disk.meaning c.begin_event.new.self c.args.t.0
    c.args.table.now c.note_in.new.works c.begin_event.ensures.core c.in-Ok-note_in.ensures.ok
