use Rattle.std.proofs.Common.{Some, arith, inr}
use Rattle.mg_engine.specs.Places.{places}
use Rattle.mg_records.specs.Keeping.{refusal_in}
use Rattle.mg_engine.proofs.ApartLemmas.{points_apart}
use Rattle.mg_engine.proofs.EngineLemmas.{savepoints_as}
use Rattle.mg_engine.proofs.AskedLemmas.{unwritten_as}
use Rattle.mg_engine.proofs.ToldLemmas.{room_as, told_as, undamaged_as}
use Rattle.mg_engine.proofs.RoomLemmas.{gives_room}
use Rattle.mg_engine_meaning_laws.specs.Meaning.{means}
use Rattle.mg_no_damage_laws.specs.AlikeRoom.{leaves_with, quietly_with, room_with, sessions_with, undamaged_with}
use Rattle.mg_model.specs.declared.event.Event.TheVariants.{Savepoint}
use Rattle.mg_engine.proofs.keeping.EngineRecords.savepoint.Goals as goal

pub invariant_of-self : goal.invariant_of-self
invariant_of-self g c = record {
  lawful = c.savepoint.ensures.core;
  apart = points_apart c.self.inside.core c.savepoint.new.self c.args.t.0 (Some c.args.name.now) c.savepoint.result c.savepoint.ensures.sets c.self.invariant.apart;
}

pub returns-clause-adds : goal.returns-clause-adds
returns-clause-adds g c = let it = savepoints_as g.D.Disk.meaning places c.self.inside.core c.args.self.now c.savepoint.new.self
    c.self.view_is c.self.invariant c.points_go_on.ensures.savepoints c.args.t c.args.name.now c.savepoint.result c.savepoint.ensures.sets in
    gives_room g.D.Disk.meaning places c.args.self.now c.savepoint.new.self (Savepoint c.args.t c.args.name.now) c.savepoint.result 0 (λ o h. omega arith)
    (inr (c.events_take_no_page.ensures.points c.self.inside.core c.savepoint.new.self c.args.t.0
    (Some c.args.name.now) c.savepoint.result c.savepoint.ensures.sets))
    it.leaves.keeps
    (room_as g.D.Disk.meaning places c.self.inside.core c.args.self.now
    c.savepoint.new.self c.self.view_is (refusal_in c.savepoint.result) 0
    (c.events_take_none.ensures.points c.self.inside.core c.savepoint.new.self c.args.t.0 (Some c.args.name.now)
    c.savepoint.result c.savepoint.ensures.sets))
    it.adds

pub returns-clause-leaves : goal.returns-clause-leaves
returns-clause-leaves g c = leaves_with (means g.D.Disk.meaning places) c.args.self.now c.savepoint.new.self _ _ _
    ((savepoints_as g.D.Disk.meaning places c.self.inside.core c.args.self.now c.savepoint.new.self
    c.self.view_is c.self.invariant c.points_go_on.ensures.savepoints c.args.t c.args.name.now c.savepoint.result c.savepoint.ensures.sets).leaves)

pub returns-clause-crash : goal.returns-clause-crash
returns-clause-crash g c = quietly_with (means g.D.Disk.meaning places) c.args.self.now c.savepoint.new.self
    ((savepoints_as g.D.Disk.meaning places c.self.inside.core c.args.self.now c.savepoint.new.self
    c.self.view_is c.self.invariant c.points_go_on.ensures.savepoints c.args.t c.args.name.now c.savepoint.result c.savepoint.ensures.sets).crash)

pub returns-clause-sessions : goal.returns-clause-sessions
returns-clause-sessions g c = sessions_with (means g.D.Disk.meaning places) c.args.self.now c.savepoint.new.self _ _
    ((savepoints_as g.D.Disk.meaning places c.self.inside.core c.args.self.now c.savepoint.new.self
    c.self.view_is c.self.invariant c.points_go_on.ensures.savepoints c.args.t c.args.name.now c.savepoint.result c.savepoint.ensures.sets).sessions)

pub returns-clause-told : goal.returns-clause-told
returns-clause-told g c = told_as g.D.Disk.meaning places c.self.inside.core c.args.self.now
    c.savepoint.new.self c.self.view_is (refusal_in c.savepoint.result)
    (c.events_tell_faults.ensures.points c.self.inside.core c.savepoint.new.self c.args.t.0 (Some c.args.name.now)
    c.savepoint.result c.savepoint.ensures.sets)

pub returns-clause-undamaged : goal.returns-clause-undamaged
returns-clause-undamaged g c = undamaged_with (means g.D.Disk.meaning places) c.args.self.now c.savepoint.new.self
    (undamaged_as g.D.Disk.meaning places c.self.inside.core c.args.self.now
    c.savepoint.new.self c.self.view_is
    (c.events_meet_no_damage.ensures.points c.self.inside.core c.savepoint.new.self c.args.t.0 (Some c.args.name.now)
    c.savepoint.result c.savepoint.ensures.sets))

pub returns-clause-room : goal.returns-clause-room
returns-clause-room g c = room_with (means g.D.Disk.meaning places) c.args.self.now c.savepoint.new.self _ _
    (room_as g.D.Disk.meaning places c.self.inside.core c.args.self.now
    c.savepoint.new.self c.self.view_is (refusal_in c.savepoint.result) 0
    (c.events_take_none.ensures.points c.self.inside.core c.savepoint.new.self c.args.t.0 (Some c.args.name.now)
    c.savepoint.result c.savepoint.ensures.sets))

pub returns-clause-unwritten : goal.returns-clause-unwritten
returns-clause-unwritten g c = unwritten_as g.D.Disk.meaning places c.self.inside.core c.args.self.now
    c.savepoint.new.self c.self.view_is
    (c.events_write_none.ensures.points c.self.inside.core c.savepoint.new.self c.args.t.0 (Some c.args.name.now)
    c.savepoint.result c.savepoint.ensures.sets)

pub returns-clause-unpaged : goal.returns-clause-unpaged
returns-clause-unpaged g c = c.events_take_no_page.ensures.points c.self.inside.core c.savepoint.new.self c.args.t.0
    (Some c.args.name.now) c.savepoint.result c.savepoint.ensures.sets
