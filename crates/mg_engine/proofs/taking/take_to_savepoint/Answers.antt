use Rattle.std.proofs.Common.{subst}
use Rattle.mg_engine.specs.Places.{places}
use Rattle.mg_model.specs.declared.change.Point.TheVariants.{SavepointNamed}
use Rattle.mg_taking_back.specs.Tables.{TellsTables}
use Rattle.mg_engine.proofs.taking.take_to_savepoint.Goals as goal

pub returns-then-takes_tables_to_savepoint-clause-back : goal.returns-then-takes_tables_to_savepoint-clause-back
returns-then-takes_tables_to_savepoint-clause-back g c = c.backs_give_over.ensures.savepoints places c.args.core.now c.back_over_tables.new.core
    c.args.t c.args.name.now c.back_over_tables.result c.requires.engine.lawful c.requires.counts c.requires.engine.apart
    c.back_over_tables.ensures.goes

pub returns-clause-back : goal.returns-clause-back
returns-clause-back g c = c.backs_give.ensures.savepoints places c.args.core.now c.back_to.new.core c.args.t
    c.args.name.now c.back_to.result c.requires.engine.lawful c.requires.counts c.requires.engine.apart
    (subst (TellsTables c.args.core.now c.args.t.0 (SavepointNamed c.args.name.now)) c.if-takes_tables_to_savepoint.false
    c.takes_tables_to_savepoint.ensures) c.back_to.ensures.goes

pub returns-then-takes_tables_to_savepoint-clause-told : goal.returns-then-takes_tables_to_savepoint-clause-told
returns-then-takes_tables_to_savepoint-clause-told g c = c.backs_tell_faults.ensures.table_savepoints c.args.core.now
    c.back_over_tables.new.core c.args.t.0 c.args.name.now c.back_over_tables.result c.back_over_tables.ensures.goes

pub returns-clause-told : goal.returns-clause-told
returns-clause-told g c = c.backs_tell_faults.ensures.savepoints c.args.core.now c.back_to.new.core
    c.args.t.0 c.args.name.now c.back_to.result c.back_to.ensures.goes

pub returns-then-takes_tables_to_savepoint-clause-undamaged : goal.returns-then-takes_tables_to_savepoint-clause-undamaged
returns-then-takes_tables_to_savepoint-clause-undamaged g c = c.backs_over_meet_no_damage.ensures.savepoints c.args.core.now
    c.back_over_tables.new.core c.args.t c.args.name.now c.back_over_tables.result c.requires.engine.lawful
    c.back_over_tables.ensures.goes

pub returns-clause-undamaged : goal.returns-clause-undamaged
returns-clause-undamaged g c = c.backs_meet_no_damage.ensures.savepoints c.args.core.now
    c.back_to.new.core c.args.t c.args.name.now c.back_to.result c.requires.engine.lawful
    (subst (TellsTables c.args.core.now c.args.t.0 (SavepointNamed c.args.name.now)) c.if-takes_tables_to_savepoint.false
    c.takes_tables_to_savepoint.ensures) c.back_to.ensures.goes

pub returns-then-takes_tables_to_savepoint-clause-room : goal.returns-then-takes_tables_to_savepoint-clause-room
returns-then-takes_tables_to_savepoint-clause-room g c = c.backs_over_take_few.ensures.savepoints c.args.core.now
    c.back_over_tables.new.core c.args.t c.args.name.now c.back_over_tables.result c.requires.engine.lawful
    c.back_over_tables.ensures.goes

pub returns-clause-room : goal.returns-clause-room
returns-clause-room g c = c.backs_take_few.ensures.savepoints c.args.core.now
    c.back_to.new.core c.args.t c.args.name.now c.back_to.result c.requires.engine.lawful
    (subst (TellsTables c.args.core.now c.args.t.0 (SavepointNamed c.args.name.now)) c.if-takes_tables_to_savepoint.false
    c.takes_tables_to_savepoint.ensures) c.back_to.ensures.goes
