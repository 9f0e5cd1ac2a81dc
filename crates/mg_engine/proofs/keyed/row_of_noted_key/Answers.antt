use Rattle.mg_engine.proofs.NotingLemmas.{noted_answers}
use Rattle.mg_engine.proofs.keyed.row_of_noted_key.Goals as goal

pub returns-in-Ok-clause-answers : goal.returns-in-Ok-clause-answers
returns-in-Ok-clause-answers g c = noted_answers g.D.Disk.meaning c.args.core.now c.note_keys.new.core
    c.row_of_key.new.core c.args.t c.args.table.now c.args.key.now c.row_of_key.result c.note_keys.ensures.core
    c.in-Ok.ensures.notes c.row_of_key.ensures.answers
