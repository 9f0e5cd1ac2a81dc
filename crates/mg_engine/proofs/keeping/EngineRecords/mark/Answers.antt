use Rattle.std.proofs.Common.{None, arith, inr}
use Rattle.mg_engine.specs.Places.{places}
use Rattle.mg_records.specs.Keeping.{refusal_in}
use Rattle.mg_engine.proofs.ApartLemmas.{points_apart}
use Rattle.mg_engine.proofs.EngineLemmas.{marks_as}
use Rattle.mg_engine.proofs.AskedLemmas.{unwritten_as}
use Rattle.mg_engine.proofs.ToldLemmas.{room_as, told_as, undamaged_as}
use Rattle.mg_engine.proofs.RoomLemmas.{gives_room}
use Rattle.mg_engine_meaning_laws.specs.Meaning.{means}
use Rattle.mg_no_damage_laws.specs.AlikeRoom.{leaves_with, quietly_with, room_with, sessions_with, undamaged_with}
use Rattle.mg_model.specs.declared.event.Event.TheVariants.{Mark}
use Rattle.mg_engine.proofs.keeping.EngineRecords.mark.Goals as goal

pub invariant_of-self : goal.invariant_of-self
invariant_of-self g c = record {
  lawful = c.mark.ensures.core;
  apart = points_apart c.self.inside.core c.mark.new.self c.args.t.0 None c.mark.result c.mark.ensures.sets c.self.invariant.apart;
}

pub returns-clause-adds : goal.returns-clause-adds
returns-clause-adds g c = let it = marks_as g.D.Disk.meaning places c.self.inside.core c.args.self.now c.mark.new.self
    c.self.view_is c.self.invariant c.points_go_on.ensures.marks c.args.t c.mark.result c.mark.ensures.sets in
    gives_room g.D.Disk.meaning places c.args.self.now c.mark.new.self (Mark c.args.t) c.mark.result 0 (λ o h. omega arith)
    (inr (c.events_take_no_page.ensures.points c.self.inside.core c.mark.new.self c.args.t.0 None c.mark.result
    c.mark.ensures.sets))
    it.leaves.keeps
    (room_as g.D.Disk.meaning places c.self.inside.core c.args.self.now
    c.mark.new.self c.self.view_is (refusal_in c.mark.result) 0
    (c.events_take_none.ensures.points c.self.inside.core c.mark.new.self c.args.t.0 None c.mark.result
    c.mark.ensures.sets))
    it.adds

pub returns-clause-leaves : goal.returns-clause-leaves
returns-clause-leaves g c = leaves_with (means g.D.Disk.meaning places) c.args.self.now c.mark.new.self _ _ _
    ((marks_as g.D.Disk.meaning places c.self.inside.core c.args.self.now c.mark.new.self
    c.self.view_is c.self.invariant c.points_go_on.ensures.marks c.args.t c.mark.result c.mark.ensures.sets).leaves)

pub returns-clause-crash : goal.returns-clause-crash
returns-clause-crash g c = quietly_with (means g.D.Disk.meaning places) c.args.self.now c.mark.new.self
    ((marks_as g.D.Disk.meaning places c.self.inside.core c.args.self.now c.mark.new.self
    c.self.view_is c.self.invariant c.points_go_on.ensures.marks c.args.t c.mark.result c.mark.ensures.sets).crash)

pub returns-clause-sessions : goal.returns-clause-sessions
returns-clause-sessions g c = sessions_with (means g.D.Disk.meaning places) c.args.self.now c.mark.new.self _ _
    ((marks_as g.D.Disk.meaning places c.self.inside.core c.args.self.now c.mark.new.self
    c.self.view_is c.self.invariant c.points_go_on.ensures.marks c.args.t c.mark.result c.mark.ensures.sets).sessions)

pub returns-clause-told : goal.returns-clause-told
returns-clause-told g c = told_as g.D.Disk.meaning places c.self.inside.core c.args.self.now
    c.mark.new.self c.self.view_is (refusal_in c.mark.result)
    (c.events_tell_faults.ensures.points c.self.inside.core c.mark.new.self c.args.t.0 None c.mark.result
    c.mark.ensures.sets)

pub returns-clause-undamaged : goal.returns-clause-undamaged
returns-clause-undamaged g c = undamaged_with (means g.D.Disk.meaning places) c.args.self.now c.mark.new.self
    (undamaged_as g.D.Disk.meaning places c.self.inside.core c.args.self.now
    c.mark.new.self c.self.view_is
    (c.events_meet_no_damage.ensures.points c.self.inside.core c.mark.new.self c.args.t.0 None c.mark.result
    c.mark.ensures.sets))

pub returns-clause-room : goal.returns-clause-room
returns-clause-room g c = room_with (means g.D.Disk.meaning places) c.args.self.now c.mark.new.self _ _
    (room_as g.D.Disk.meaning places c.self.inside.core c.args.self.now
    c.mark.new.self c.self.view_is (refusal_in c.mark.result) 0
    (c.events_take_none.ensures.points c.self.inside.core c.mark.new.self c.args.t.0 None c.mark.result
    c.mark.ensures.sets))

pub returns-clause-unwritten : goal.returns-clause-unwritten
returns-clause-unwritten g c = unwritten_as g.D.Disk.meaning places c.self.inside.core c.args.self.now
    c.mark.new.self c.self.view_is
    (c.events_write_none.ensures.points c.self.inside.core c.mark.new.self c.args.t.0 None c.mark.result
    c.mark.ensures.sets)

pub returns-clause-unpaged : goal.returns-clause-unpaged
returns-clause-unpaged g c = c.events_take_no_page.ensures.points c.self.inside.core c.mark.new.self c.args.t.0 None c.mark.result
    c.mark.ensures.sets
