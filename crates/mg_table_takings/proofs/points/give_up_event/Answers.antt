use Rattle.mg_table_takings.proofs.PointLemmas.{not_copied}
use Rattle.mg_table_takings.proofs.points.give_up_event.Goals as goal

pub returns-clause-fails : goal.returns-clause-fails
returns-clause-fails g c = λ point. not_copied g.D.Disk.meaning c.args.core.now c.end_wait.new.core c.give_up.new.core
    c.args.t.0 point c.give_up.result c.requires.continues c.end_wait.ensures.wait c.give_up.ensures.refusal
    c.give_up.ensures.gives_up
