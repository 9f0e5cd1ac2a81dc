use Rattle.mg_engine.specs.Places.{places}
use Rattle.mg_records.specs.Keeping.{refusal_in}
use Rattle.mg_engine.proofs.EngineLemmas.{found_as}
use Rattle.mg_engine.proofs.AskedLemmas.{unwritten_as}
use Rattle.mg_engine.proofs.ToldLemmas.{room_as, told_as, undamaged_as}
use Rattle.mg_engine.proofs.RoomLemmas.{finds_room}
use Rattle.mg_engine_meaning_laws.specs.Meaning.{means}
use Rattle.mg_no_damage_laws.specs.AlikeRoom.{leaves_with, quietly_with, room_with, sessions_with, undamaged_with}
use Rattle.mg_engine.proofs.keeping.EngineRecords.found.Goals as goal

pub returns-clause-leaves : goal.returns-clause-leaves
returns-clause-leaves g c = leaves_with (means g.D.Disk.meaning places) c.args.self.now c.found.new.self _ _ _
    ((found_as g.D.Disk.meaning places c.self.inside.core c.args.self.now c.found.new.self
    c.self.view_is c.self.invariant c.points_go_on.ensures.found c.args.t c.args.name.now c.args.filter.now c.args.rows.now
    c.found.result c.found.ensures.wait c.found.ensures.begins).leaves)

pub returns-clause-told : goal.returns-clause-told
returns-clause-told g c = told_as g.D.Disk.meaning places c.self.inside.core c.args.self.now
    c.found.new.self c.self.view_is (refusal_in c.found.result)
    (c.events_tell_faults.ensures.waits c.self.inside.core c.found.new.self c.args.t.0 (refusal_in c.found.result)
    c.found.ensures.wait)

pub returns-clause-undamaged : goal.returns-clause-undamaged
returns-clause-undamaged g c = undamaged_with (means g.D.Disk.meaning places) c.args.self.now c.found.new.self
    (undamaged_as g.D.Disk.meaning places c.self.inside.core c.args.self.now
    c.found.new.self c.self.view_is
    (c.events_meet_no_damage.ensures.waits c.self.inside.core c.found.new.self c.args.t.0 c.found.ensures.wait))

pub returns-clause-room : goal.returns-clause-room
returns-clause-room g c = room_with (means g.D.Disk.meaning places) c.args.self.now c.found.new.self _ _
    (room_as g.D.Disk.meaning places c.self.inside.core c.args.self.now
    c.found.new.self c.self.view_is (refusal_in c.found.result) 0
    (c.events_take_none.ensures.founds c.self.inside.core c.found.new.self c.args.t.0 c.found.result
    c.found.ensures.wait c.found.ensures.begins))

pub returns-clause-adds : goal.returns-clause-adds
returns-clause-adds g c = let it = found_as g.D.Disk.meaning places c.self.inside.core c.args.self.now c.found.new.self
    c.self.view_is c.self.invariant c.points_go_on.ensures.found c.args.t c.args.name.now c.args.filter.now c.args.rows.now
    c.found.result c.found.ensures.wait c.found.ensures.begins in
    finds_room g.D.Disk.meaning places c.args.self.now c.found.new.self c.args.t c.args.name.now c.args.filter.now c.args.rows.now c.found.result
    (c.events_take_no_page.ensures.founds c.self.inside.core c.args.t.0 c.found.result c.found.ensures.begins)
    it.leaves.keeps
    (room_as g.D.Disk.meaning places c.self.inside.core c.args.self.now
    c.found.new.self c.self.view_is (refusal_in c.found.result) 0
    (c.events_take_none.ensures.founds c.self.inside.core c.found.new.self c.args.t.0 c.found.result
    c.found.ensures.wait c.found.ensures.begins))
    it.adds

pub returns-clause-crash : goal.returns-clause-crash
returns-clause-crash g c = quietly_with (means g.D.Disk.meaning places) c.args.self.now c.found.new.self
    ((found_as g.D.Disk.meaning places c.self.inside.core c.args.self.now c.found.new.self
    c.self.view_is c.self.invariant c.points_go_on.ensures.found c.args.t c.args.name.now c.args.filter.now c.args.rows.now
    c.found.result c.found.ensures.wait c.found.ensures.begins).crash)

pub returns-clause-sessions : goal.returns-clause-sessions
returns-clause-sessions g c = sessions_with (means g.D.Disk.meaning places) c.args.self.now c.found.new.self _ _
    ((found_as g.D.Disk.meaning places c.self.inside.core c.args.self.now c.found.new.self
    c.self.view_is c.self.invariant c.points_go_on.ensures.found c.args.t c.args.name.now c.args.filter.now c.args.rows.now
    c.found.result c.found.ensures.wait c.found.ensures.begins).sessions)

pub returns-clause-unwritten : goal.returns-clause-unwritten
returns-clause-unwritten g c = unwritten_as g.D.Disk.meaning places c.self.inside.core c.args.self.now
    c.found.new.self c.self.view_is
    (c.events_write_none.ensures.waits c.self.inside.core c.found.new.self c.args.t.0
    c.found.ensures.wait)

pub returns-clause-unpaged : goal.returns-clause-unpaged
returns-clause-unpaged g c = c.events_take_no_page.ensures.founds c.self.inside.core c.args.t.0 c.found.result c.found.ensures.begins
