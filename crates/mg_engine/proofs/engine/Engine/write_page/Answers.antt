use Rattle.std.proofs.Common.{subst}
use Rattle.mg_core.specs.declared.parts.Core.{Core}
use Rattle.mg_core.specs.Committing.{WritesPage}
use Rattle.mg_engine.specs.Places.{places}
use Rattle.mg_records.specs.Keeping.{refusal_in}
use Rattle.mg_engine.proofs.BeginLemmas.{pages_apart, pages_as}
use Rattle.mg_engine.proofs.AskedLemmas.{written_as}
use Rattle.mg_engine.proofs.ToldLemmas.{room_as, told_as, undamaged_as}
use Rattle.mg_engine.proofs.RoomLemmas.{reads_room}
use Rattle.mg_engine_meaning_laws.specs.Meaning.{means}
use Rattle.mg_no_damage_laws.specs.AlikeRoom.{quietly_with, room_with, sessions_with, undamaged_with}
use Rattle.mg_engine.proofs.engine.Engine.write_page.Goals as goal

pub invariant_of-self : goal.invariant_of-self
invariant_of-self g c = record {
  lawful = c.write_page.ensures.core;
  apart = pages_apart g.D.Disk.meaning c.self.inside.core c.write_page.new.self c.write_page.result
      c.write_page.ensures.writes c.self.invariant.apart;
}

pub returns-clause-next : goal.returns-clause-next
returns-clause-next g c = (pages_as g.D.Disk.meaning places c.self.inside.core c.args.self.now c.write_page.new.self
    c.self.view_is c.self.invariant c.next_pages_go_on.ensures c.write_page.result c.write_page.ensures.writes).next

pub returns-clause-reads : goal.returns-clause-reads
returns-clause-reads g c = reads_room g.D.Disk.meaning places c.args.self.now c.write_page.new.self _ _
    (room_as g.D.Disk.meaning places c.self.inside.core c.args.self.now
    c.write_page.new.self c.self.view_is (refusal_in c.write_page.result) 0
    (c.commits_take_none.ensures.pages c.self.inside.core c.write_page.new.self c.write_page.result
    c.self.invariant.lawful c.write_page.ensures.writes))
    ((pages_as g.D.Disk.meaning places c.self.inside.core c.args.self.now c.write_page.new.self
    c.self.view_is c.self.invariant c.next_pages_go_on.ensures c.write_page.result c.write_page.ensures.writes).reads)

pub returns-clause-crash : goal.returns-clause-crash
returns-clause-crash g c = quietly_with (means g.D.Disk.meaning places) c.args.self.now c.write_page.new.self
    ((pages_as g.D.Disk.meaning places c.self.inside.core c.args.self.now c.write_page.new.self
    c.self.view_is c.self.invariant c.next_pages_go_on.ensures c.write_page.result c.write_page.ensures.writes).crash)

pub returns-clause-sessions : goal.returns-clause-sessions
returns-clause-sessions g c = sessions_with (means g.D.Disk.meaning places) c.args.self.now c.write_page.new.self _ _
    ((pages_as g.D.Disk.meaning places c.self.inside.core c.args.self.now c.write_page.new.self
    c.self.view_is c.self.invariant c.next_pages_go_on.ensures c.write_page.result c.write_page.ensures.writes).sessions)

pub returns-clause-writes : goal.returns-clause-writes
returns-clause-writes g c = subst (λ (core : Core g.row.D.Denot). WritesPage g.D.Disk.meaning core
    c.write_page.new.self c.write_page.result) c.self.view_is c.write_page.ensures.writes

pub returns-clause-told : goal.returns-clause-told
returns-clause-told g c = told_as g.D.Disk.meaning places c.self.inside.core c.args.self.now
    c.write_page.new.self c.self.view_is (refusal_in c.write_page.result)
    (c.page_writes_tell_faults.ensures.pages c.self.inside.core c.write_page.new.self c.write_page.result
    c.write_page.ensures.writes)

pub returns-clause-undamaged : goal.returns-clause-undamaged
returns-clause-undamaged g c = undamaged_with (means g.D.Disk.meaning places) c.args.self.now c.write_page.new.self
    (undamaged_as g.D.Disk.meaning places c.self.inside.core c.args.self.now
    c.write_page.new.self c.self.view_is
    (c.commits_meet_no_damage.ensures.pages c.self.inside.core c.write_page.new.self c.write_page.result
    c.write_page.ensures.writes))

pub returns-clause-room : goal.returns-clause-room
returns-clause-room g c = room_with (means g.D.Disk.meaning places) c.args.self.now c.write_page.new.self _ _
    (room_as g.D.Disk.meaning places c.self.inside.core c.args.self.now
    c.write_page.new.self c.self.view_is (refusal_in c.write_page.result) 0
    (c.commits_take_none.ensures.pages c.self.inside.core c.write_page.new.self c.write_page.result
    c.self.invariant.lawful c.write_page.ensures.writes))

pub returns-clause-written : goal.returns-clause-written
returns-clause-written g c = written_as g.D.Disk.meaning places c.self.inside.core c.args.self.now
    c.write_page.new.self c.self.view_is c.write_page.result
    (c.page_writes_ask_one.ensures.pages c.self.inside.core c.write_page.new.self c.write_page.result
    c.write_page.ensures.writes)

pub returns-clause-takes : goal.returns-clause-takes
returns-clause-takes g c = c.commits_want_nothing.ensures.pages c.self.inside.core c.write_page.new.self
    c.write_page.result c.write_page.ensures.writes
