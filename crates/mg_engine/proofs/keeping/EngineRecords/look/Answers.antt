use Rattle.std.proofs.Common.{arith, inr}
use Rattle.mg_engine.specs.Places.{places}
use Rattle.mg_records.specs.Keeping.{refusal_in}
use Rattle.mg_engine.proofs.ApartLemmas.{looks_apart}
use Rattle.mg_engine.proofs.EngineLemmas.{looks_as}
use Rattle.mg_engine.proofs.AskedLemmas.{unwritten_as}
use Rattle.mg_engine.proofs.ToldLemmas.{room_as, told_as, undamaged_as}
use Rattle.mg_engine.proofs.RoomLemmas.{gives_room}
use Rattle.mg_engine_meaning_laws.specs.Meaning.{means}
use Rattle.mg_no_damage_laws.specs.AlikeRoom.{leaves_with, quietly_with, room_with, sessions_with, undamaged_with}
use Rattle.mg_model.specs.declared.event.Event.TheVariants.{Look}
use Rattle.mg_engine.proofs.keeping.EngineRecords.look.Goals as goal

pub invariant_of-self : goal.invariant_of-self
invariant_of-self g c = record {
  lawful = c.look.ensures.core;
  apart = looks_apart c.self.inside.core c.look.new.self c.args.t.0 c.look.result c.look.ensures.looks c.self.invariant.apart;
}

pub returns-clause-adds : goal.returns-clause-adds
returns-clause-adds g c = let it = looks_as g.D.Disk.meaning places c.self.inside.core c.args.self.now c.look.new.self
    c.self.view_is c.self.invariant c.looks_go_on.ensures c.args.t c.look.result c.look.ensures.looks in
    gives_room g.D.Disk.meaning places c.args.self.now c.look.new.self (Look c.args.t) c.look.result 0 (λ o h. omega arith)
    (inr (c.events_take_no_page.ensures.looks c.self.inside.core c.look.new.self c.args.t.0 c.look.result
    c.look.ensures.looks))
    it.leaves.keeps
    (room_as g.D.Disk.meaning places c.self.inside.core c.args.self.now
    c.look.new.self c.self.view_is (refusal_in c.look.result) 0
    (c.events_take_none.ensures.looks c.self.inside.core c.look.new.self c.args.t.0 c.look.result
    c.look.ensures.looks))
    it.adds

pub returns-clause-leaves : goal.returns-clause-leaves
returns-clause-leaves g c = leaves_with (means g.D.Disk.meaning places) c.args.self.now c.look.new.self _ _ _
    ((looks_as g.D.Disk.meaning places c.self.inside.core c.args.self.now c.look.new.self
    c.self.view_is c.self.invariant c.looks_go_on.ensures c.args.t c.look.result c.look.ensures.looks).leaves)

pub returns-clause-crash : goal.returns-clause-crash
returns-clause-crash g c = quietly_with (means g.D.Disk.meaning places) c.args.self.now c.look.new.self
    ((looks_as g.D.Disk.meaning places c.self.inside.core c.args.self.now c.look.new.self
    c.self.view_is c.self.invariant c.looks_go_on.ensures c.args.t c.look.result c.look.ensures.looks).crash)

pub returns-clause-sessions : goal.returns-clause-sessions
returns-clause-sessions g c = sessions_with (means g.D.Disk.meaning places) c.args.self.now c.look.new.self _ _
    ((looks_as g.D.Disk.meaning places c.self.inside.core c.args.self.now c.look.new.self
    c.self.view_is c.self.invariant c.looks_go_on.ensures c.args.t c.look.result c.look.ensures.looks).sessions)

pub returns-clause-told : goal.returns-clause-told
returns-clause-told g c = told_as g.D.Disk.meaning places c.self.inside.core c.args.self.now
    c.look.new.self c.self.view_is (refusal_in c.look.result)
    (c.events_tell_faults.ensures.looks c.self.inside.core c.look.new.self c.args.t.0 c.look.result
    c.look.ensures.looks)

pub returns-clause-undamaged : goal.returns-clause-undamaged
returns-clause-undamaged g c = undamaged_with (means g.D.Disk.meaning places) c.args.self.now c.look.new.self
    (undamaged_as g.D.Disk.meaning places c.self.inside.core c.args.self.now
    c.look.new.self c.self.view_is
    (c.events_meet_no_damage.ensures.looks c.self.inside.core c.look.new.self c.args.t.0 c.look.result
    c.look.ensures.looks))

pub returns-clause-room : goal.returns-clause-room
returns-clause-room g c = room_with (means g.D.Disk.meaning places) c.args.self.now c.look.new.self _ _
    (room_as g.D.Disk.meaning places c.self.inside.core c.args.self.now
    c.look.new.self c.self.view_is (refusal_in c.look.result) 0
    (c.events_take_none.ensures.looks c.self.inside.core c.look.new.self c.args.t.0 c.look.result
    c.look.ensures.looks))

pub returns-clause-unwritten : goal.returns-clause-unwritten
returns-clause-unwritten g c = unwritten_as g.D.Disk.meaning places c.self.inside.core c.args.self.now
    c.look.new.self c.self.view_is
    (c.events_write_none.ensures.looks c.self.inside.core c.look.new.self c.args.t.0 c.look.result
    c.look.ensures.looks)

pub returns-clause-unpaged : goal.returns-clause-unpaged
returns-clause-unpaged g c = c.events_take_no_page.ensures.looks c.self.inside.core c.look.new.self c.args.t.0 c.look.result
    c.look.ensures.looks
