use Rattle.mg_engine.specs.Places.{places}
use Rattle.mg_records.specs.Keeping.{refusal_in}
use Rattle.mg_engine.proofs.ApartLemmas.{asks_apart}
use Rattle.mg_engine.proofs.EngineLemmas.{asks_as}
use Rattle.mg_engine.proofs.AskedLemmas.{unwritten_as}
use Rattle.mg_engine.proofs.ToldLemmas.{room_as, told_as, undamaged_as}
use Rattle.mg_engine.proofs.RoomLemmas.{reads_room}
use Rattle.mg_engine_meaning_laws.specs.Meaning.{means}
use Rattle.mg_no_damage_laws.specs.AlikeRoom.{answers_with, quietly_with, room_with, sessions_with, undamaged_with}
use Rattle.mg_engine.proofs.keeping.EngineRecords.commit_ask.Goals as goal

pub invariant_of-self : goal.invariant_of-self
invariant_of-self g c = record {
  lawful = c.commit_ask.ensures.core;
  apart = asks_apart c.self.inside.core c.commit_ask.new.self c.args.t.0 c.commit_ask.result c.commit_ask.ensures.asks c.self.invariant.apart;
}

pub returns-clause-asks : goal.returns-clause-asks
returns-clause-asks g c = (asks_as g.D.Disk.meaning places c.self.inside.core c.args.self.now c.commit_ask.new.self
    c.self.view_is c.self.invariant c.steps_go_on.ensures.asks c.args.t.0 c.commit_ask.result
    c.commit_ask.ensures.asks).1

pub returns-clause-reads : goal.returns-clause-reads
returns-clause-reads g c = reads_room g.D.Disk.meaning places c.args.self.now c.commit_ask.new.self _ _
    (room_as g.D.Disk.meaning places c.self.inside.core c.args.self.now
    c.commit_ask.new.self c.self.view_is (refusal_in c.commit_ask.result) 0
    (c.commits_take_none.ensures.asks c.self.inside.core c.commit_ask.new.self c.args.t.0 c.commit_ask.result
    c.commit_ask.ensures.asks))
    ((asks_as g.D.Disk.meaning places c.self.inside.core c.args.self.now c.commit_ask.new.self
    c.self.view_is c.self.invariant c.steps_go_on.ensures.asks c.args.t.0 c.commit_ask.result c.commit_ask.ensures.asks).0.reads)

pub returns-clause-crash : goal.returns-clause-crash
returns-clause-crash g c = quietly_with (means g.D.Disk.meaning places) c.args.self.now c.commit_ask.new.self
    ((asks_as g.D.Disk.meaning places c.self.inside.core c.args.self.now c.commit_ask.new.self
    c.self.view_is c.self.invariant c.steps_go_on.ensures.asks c.args.t.0 c.commit_ask.result c.commit_ask.ensures.asks).0.crash)

pub returns-clause-sessions : goal.returns-clause-sessions
returns-clause-sessions g c = sessions_with (means g.D.Disk.meaning places) c.args.self.now c.commit_ask.new.self _ _
    ((asks_as g.D.Disk.meaning places c.self.inside.core c.args.self.now c.commit_ask.new.self
    c.self.view_is c.self.invariant c.steps_go_on.ensures.asks c.args.t.0 c.commit_ask.result c.commit_ask.ensures.asks).0.sessions)

pub returns-clause-told : goal.returns-clause-told
returns-clause-told g c = told_as g.D.Disk.meaning places c.self.inside.core c.args.self.now
    c.commit_ask.new.self c.self.view_is (refusal_in c.commit_ask.result)
    (c.page_writes_tell_faults.ensures.asks c.self.inside.core c.commit_ask.new.self c.args.t.0 c.commit_ask.result
    c.commit_ask.ensures.asks)

pub returns-clause-undamaged : goal.returns-clause-undamaged
returns-clause-undamaged g c = undamaged_with (means g.D.Disk.meaning places) c.args.self.now c.commit_ask.new.self
    (undamaged_as g.D.Disk.meaning places c.self.inside.core c.args.self.now
    c.commit_ask.new.self c.self.view_is
    (c.commits_meet_no_damage.ensures.asks c.self.inside.core c.commit_ask.new.self c.args.t.0 c.commit_ask.result
    c.commit_ask.ensures.asks))

pub returns-clause-room : goal.returns-clause-room
returns-clause-room g c = room_with (means g.D.Disk.meaning places) c.args.self.now c.commit_ask.new.self _ _
    (room_as g.D.Disk.meaning places c.self.inside.core c.args.self.now
    c.commit_ask.new.self c.self.view_is (refusal_in c.commit_ask.result) 0
    (c.commits_take_none.ensures.asks c.self.inside.core c.commit_ask.new.self c.args.t.0 c.commit_ask.result
    c.commit_ask.ensures.asks))

pub returns-clause-answers : goal.returns-clause-answers
returns-clause-answers g c = answers_with (means g.D.Disk.meaning places) c.args.self.now c.args.t.0 c.commit_ask.result
    ((asks_as g.D.Disk.meaning places c.self.inside.core c.args.self.now c.commit_ask.new.self
    c.self.view_is c.self.invariant c.steps_go_on.ensures.asks c.args.t.0 c.commit_ask.result c.commit_ask.ensures.asks).0.answers)

pub returns-clause-unwritten : goal.returns-clause-unwritten
returns-clause-unwritten g c = unwritten_as g.D.Disk.meaning places c.self.inside.core c.args.self.now
    c.commit_ask.new.self c.self.view_is
    (c.page_writes_ask_one.ensures.asking c.self.inside.core c.commit_ask.new.self c.args.t.0 c.commit_ask.result
    c.commit_ask.ensures.asks)

pub returns-clause-takes : goal.returns-clause-takes
returns-clause-takes g c = c.commits_want_nothing.ensures.asking c.self.inside.core c.commit_ask.new.self c.args.t.0
    c.commit_ask.result c.commit_ask.ensures.asks
