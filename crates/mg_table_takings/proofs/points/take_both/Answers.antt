use Rattle.mg_table_takings.proofs.PointLemmas.{both_by}
use Rattle.mg_table_takings.proofs.points.take_both.Goals as goal

pub returns-in-Ok-clause-takes : goal.returns-in-Ok-clause-takes
returns-in-Ok-clause-takes g c = both_by g.D.Disk.meaning c.args.core.now c.take_others.new.core c.take_rows.new.core
    c.args.t.0 c.args.undo.now c.take_others.new.undo c.args.keys.now c.take_rows.result c.in-Ok.ensures.takes
    c.take_rows.ensures.takes
