use Rattle.mg_engine.specs.Places.{places}
use Rattle.mg_engine.proofs.BackLemmas.{counted, back_as}
use Rattle.mg_engine.proofs.ToldLemmas.{room_back_as, told_as, undamaged_as}
use Rattle.mg_model.specs.declared.change.Point.TheVariants.{SavepointNamed}
use Rattle.mg_records.specs.Keeping.{refusal_in}
use Rattle.mg_engine.proofs.RoomLemmas.{goes_room}
use Rattle.mg_engine_meaning_laws.specs.Meaning.{means}
use Rattle.mg_no_damage_laws.specs.AlikeRoom.{back_with, leaves_with, quietly_with, sessions_with, undamaged_with}
use Rattle.mg_engine.proofs.keeping.EngineRecords.back_to.Goals as goal

pub take_to_savepoint-requires-clause-engine : goal.take_to_savepoint-requires-clause-engine
take_to_savepoint-requires-clause-engine g c = c.self.invariant

pub take_to_savepoint-requires-clause-counts : goal.take_to_savepoint-requires-clause-counts
take_to_savepoint-requires-clause-counts g c = counted c.self.inside.core c.counts_fit.ensures.0 c.counts_fit.ensures.1

pub returns-clause-goes : goal.returns-clause-goes
returns-clause-goes g c = let it = back_as g.D.Disk.meaning places c.self.inside.core c.args.self.now c.take_to_savepoint.new.core c.self.view_is
    c.args.t c.args.name.now c.take_to_savepoint.result c.take_to_savepoint.ensures.back in
    goes_room g.D.Disk.meaning places c.args.self.now c.take_to_savepoint.new.core c.args.t c.args.name.now c.take_to_savepoint.result
    it.leaves.keeps
    (room_back_as g.D.Disk.meaning places c.self.inside.core c.args.self.now
    c.take_to_savepoint.new.core c.self.view_is (refusal_in c.take_to_savepoint.result) c.args.t.0
    (SavepointNamed c.args.name.now) c.take_to_savepoint.ensures.room)
    it.goes

pub returns-clause-leaves : goal.returns-clause-leaves
returns-clause-leaves g c = leaves_with (means g.D.Disk.meaning places) c.args.self.now c.take_to_savepoint.new.core _ _ _
    ((back_as g.D.Disk.meaning places c.self.inside.core c.args.self.now c.take_to_savepoint.new.core c.self.view_is
    c.args.t c.args.name.now c.take_to_savepoint.result c.take_to_savepoint.ensures.back).leaves)

pub returns-clause-crash : goal.returns-clause-crash
returns-clause-crash g c = quietly_with (means g.D.Disk.meaning places) c.args.self.now c.take_to_savepoint.new.core
    ((back_as g.D.Disk.meaning places c.self.inside.core c.args.self.now c.take_to_savepoint.new.core c.self.view_is
    c.args.t c.args.name.now c.take_to_savepoint.result c.take_to_savepoint.ensures.back).crash)

pub returns-clause-sessions : goal.returns-clause-sessions
returns-clause-sessions g c = sessions_with (means g.D.Disk.meaning places) c.args.self.now c.take_to_savepoint.new.core _ _
    ((back_as g.D.Disk.meaning places c.self.inside.core c.args.self.now c.take_to_savepoint.new.core c.self.view_is
    c.args.t c.args.name.now c.take_to_savepoint.result c.take_to_savepoint.ensures.back).sessions)

pub invariant_of-self : goal.invariant_of-self
invariant_of-self g c = record {
  lawful = c.take_to_savepoint.ensures.core;
  apart = (back_as g.D.Disk.meaning places c.self.inside.core c.args.self.now c.take_to_savepoint.new.core c.self.view_is
      c.args.t c.args.name.now c.take_to_savepoint.result c.take_to_savepoint.ensures.back).apart;
}

pub returns-clause-told : goal.returns-clause-told
returns-clause-told g c = told_as g.D.Disk.meaning places c.self.inside.core c.args.self.now c.take_to_savepoint.new.core
    c.self.view_is (refusal_in c.take_to_savepoint.result) c.take_to_savepoint.ensures.told

pub returns-clause-undamaged : goal.returns-clause-undamaged
returns-clause-undamaged g c = undamaged_with (means g.D.Disk.meaning places) c.args.self.now c.take_to_savepoint.new.core
    (undamaged_as g.D.Disk.meaning places c.self.inside.core c.args.self.now
    c.take_to_savepoint.new.core c.self.view_is
    c.take_to_savepoint.ensures.undamaged)

pub returns-clause-room : goal.returns-clause-room
returns-clause-room g c = back_with (means g.D.Disk.meaning places) c.args.self.now c.take_to_savepoint.new.core
    (refusal_in c.take_to_savepoint.result) c.args.t.0 (SavepointNamed c.args.name.now)
    (room_back_as g.D.Disk.meaning places c.self.inside.core c.args.self.now
    c.take_to_savepoint.new.core c.self.view_is (refusal_in c.take_to_savepoint.result) c.args.t.0
    (SavepointNamed c.args.name.now) c.take_to_savepoint.ensures.room)
