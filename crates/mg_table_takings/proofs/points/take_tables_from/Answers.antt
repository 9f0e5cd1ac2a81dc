use Rattle.mg_table_takings.proofs.PointLemmas.{not_known}
use Rattle.mg_table_takings.proofs.points.take_tables_from.Goals as goal

pub returns-in-Err-clause-takes : goal.returns-in-Err-clause-takes
returns-in-Err-clause-takes g c = not_known g.D.Disk.meaning c.args.core.now c.give_up.new.core c.args.t.0 c.args.undo
    c.give_up.result c.give_up.ensures.refusal c.give_up.ensures.gives_up
