use Rattle.mg_model.specs.declared.change.Point.TheVariants.{LastMark}
use Rattle.mg_taking_back.specs.TakingLaws.{undo_before}
use Rattle.mg_table_takings.proofs.PointLemmas.{not_copied, to_mark}
use Rattle.mg_table_takings.proofs.points.undo_tables_to_mark.Goals as goal

pub returns-in-Ok-copy_undo-clause-takes : goal.returns-in-Ok-copy_undo-clause-takes
returns-in-Ok-copy_undo-clause-takes g c = to_mark g.D.Disk.meaning c.args.core.now c.begin_event.new.self
    c.take_tables_from.new.core c.args.t.0 c.in-Ok-copy_undo.undo c.in-Ok.ensures.begins c.in-Ok.ensures.wait
    (undo_before c.args.core.now c.begin_event.new.self c.args.t.0 c.in-Ok-copy_undo.undo c.in-Ok.ensures.wait
    c.in-Ok-copy_undo.ensures) c.take_tables_from.result c.take_tables_from.ensures.takes

pub returns-in-Err-copy_undo-clause-takes : goal.returns-in-Err-copy_undo-clause-takes
returns-in-Err-copy_undo-clause-takes g c = not_copied g.D.Disk.meaning c.args.core.now c.begin_event.new.self
    c.give_up.new.core c.args.t.0 LastMark c.give_up.result c.in-Ok.ensures.begins
    c.in-Ok.ensures.wait c.give_up.ensures.refusal c.give_up.ensures.gives_up
