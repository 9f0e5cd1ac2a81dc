use Rattle.std.proofs.Common.{subst}
use Rattle.mg_engine.specs.Places.{places}
use Rattle.mg_model.specs.declared.change.Point.TheVariants.{LastMark}
use Rattle.mg_taking_back.specs.Tables.{TellsTables}
use Rattle.mg_engine.proofs.taking.take_to_mark.Goals as goal

pub returns-then-takes_tables_to_mark-clause-undone : goal.returns-then-takes_tables_to_mark-clause-undone
returns-then-takes_tables_to_mark-clause-undone g c = c.backs_give_over.ensures.marks places c.args.core.now c.undo_tables_to_mark.new.core
    c.args.t c.undo_tables_to_mark.result c.requires.engine.lawful c.requires.counts c.requires.engine.apart
    c.undo_tables_to_mark.ensures.takes

pub returns-clause-undone : goal.returns-clause-undone
returns-clause-undone g c = c.backs_give.ensures.marks places c.args.core.now c.undo_mark.new.core c.args.t
    c.undo_mark.result c.requires.engine.lawful c.requires.counts c.requires.engine.apart
    (subst (TellsTables c.args.core.now c.args.t.0 LastMark) c.if-takes_tables_to_mark.false
    c.takes_tables_to_mark.ensures) c.undo_mark.ensures.takes

pub returns-then-takes_tables_to_mark-clause-told : goal.returns-then-takes_tables_to_mark-clause-told
returns-then-takes_tables_to_mark-clause-told g c = c.backs_tell_faults.ensures.table_marks c.args.core.now
    c.undo_tables_to_mark.new.core c.args.t.0 LastMark c.undo_tables_to_mark.result c.undo_tables_to_mark.ensures.takes

pub returns-clause-told : goal.returns-clause-told
returns-clause-told g c = c.backs_tell_faults.ensures.marks c.args.core.now c.undo_mark.new.core
    c.args.t.0 LastMark c.undo_mark.result c.undo_mark.ensures.takes

pub returns-then-takes_tables_to_mark-clause-undamaged : goal.returns-then-takes_tables_to_mark-clause-undamaged
returns-then-takes_tables_to_mark-clause-undamaged g c = c.backs_over_meet_no_damage.ensures.marks c.args.core.now
    c.undo_tables_to_mark.new.core c.args.t c.undo_tables_to_mark.result c.requires.engine.lawful
    c.undo_tables_to_mark.ensures.takes

pub returns-clause-undamaged : goal.returns-clause-undamaged
returns-clause-undamaged g c = c.backs_meet_no_damage.ensures.marks c.args.core.now c.undo_mark.new.core
    c.args.t c.undo_mark.result c.requires.engine.lawful
    (subst (TellsTables c.args.core.now c.args.t.0 LastMark) c.if-takes_tables_to_mark.false
    c.takes_tables_to_mark.ensures) c.undo_mark.ensures.takes

pub returns-then-takes_tables_to_mark-clause-room : goal.returns-then-takes_tables_to_mark-clause-room
returns-then-takes_tables_to_mark-clause-room g c = c.backs_over_take_few.ensures.marks c.args.core.now
    c.undo_tables_to_mark.new.core c.args.t c.undo_tables_to_mark.result c.requires.engine.lawful
    c.undo_tables_to_mark.ensures.takes

pub returns-clause-room : goal.returns-clause-room
returns-clause-room g c = c.backs_take_few.ensures.marks c.args.core.now c.undo_mark.new.core
    c.args.t c.undo_mark.result c.requires.engine.lawful
    (subst (TellsTables c.args.core.now c.args.t.0 LastMark) c.if-takes_tables_to_mark.false
    c.takes_tables_to_mark.ensures) c.undo_mark.ensures.takes
