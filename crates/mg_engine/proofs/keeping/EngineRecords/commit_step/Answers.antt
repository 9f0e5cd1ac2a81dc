use Rattle.mg_engine.specs.Places.{places}
use Rattle.mg_records.specs.Keeping.{refusal_in}
use Rattle.mg_engine.proofs.EngineLemmas.{steps_as, steps_one}
use Rattle.mg_engine.proofs.AskedLemmas.{written_as}
use Rattle.mg_engine.proofs.ToldLemmas.{room_as, told_as, undamaged_as}
use Rattle.mg_engine.proofs.RoomLemmas.{reads_room}
use Rattle.mg_engine_meaning_laws.specs.Meaning.{means}
use Rattle.mg_no_damage_laws.specs.AlikeRoom.{answers_with, quietly_with, room_with, sessions_with, undamaged_with, written_with}
use Rattle.mg_engine.proofs.keeping.EngineRecords.commit_step.Goals as goal

pub returns-clause-reads : goal.returns-clause-reads
returns-clause-reads g c = reads_room g.D.Disk.meaning places c.args.self.now c.commit_step.new.self _ _
    (room_as g.D.Disk.meaning places c.self.inside.core c.args.self.now
    c.commit_step.new.self c.self.view_is (refusal_in c.commit_step.result) 0
    (c.commits_take_none.ensures.steps c.self.inside.core c.commit_step.new.self c.args.t.0 c.commit_step.result
    c.self.invariant.lawful c.commit_step.ensures.steps))
    ((steps_as g.D.Disk.meaning places c.self.inside.core c.args.self.now c.commit_step.new.self
    c.self.view_is c.self.invariant c.steps_go_on.ensures.steps c.args.t.0 c.commit_step.result c.requires.asked
    c.commit_step.ensures.steps).reads)

pub returns-clause-crash : goal.returns-clause-crash
returns-clause-crash g c = quietly_with (means g.D.Disk.meaning places) c.args.self.now c.commit_step.new.self
    ((steps_as g.D.Disk.meaning places c.self.inside.core c.args.self.now c.commit_step.new.self
    c.self.view_is c.self.invariant c.steps_go_on.ensures.steps c.args.t.0 c.commit_step.result c.requires.asked
    c.commit_step.ensures.steps).crash)

pub returns-clause-told : goal.returns-clause-told
returns-clause-told g c = told_as g.D.Disk.meaning places c.self.inside.core c.args.self.now
    c.commit_step.new.self c.self.view_is (refusal_in c.commit_step.result)
    (c.page_writes_tell_faults.ensures.steps c.self.inside.core c.commit_step.new.self c.args.t.0 c.commit_step.result
    c.commit_step.ensures.steps)

pub returns-clause-undamaged : goal.returns-clause-undamaged
returns-clause-undamaged g c = undamaged_with (means g.D.Disk.meaning places) c.args.self.now c.commit_step.new.self
    (undamaged_as g.D.Disk.meaning places c.self.inside.core c.args.self.now
    c.commit_step.new.self c.self.view_is
    (c.commits_meet_no_damage.ensures.steps c.self.inside.core c.commit_step.new.self c.args.t.0 c.commit_step.result
    c.commit_step.ensures.steps))

pub returns-clause-room : goal.returns-clause-room
returns-clause-room g c = room_with (means g.D.Disk.meaning places) c.args.self.now c.commit_step.new.self _ _
    (room_as g.D.Disk.meaning places c.self.inside.core c.args.self.now
    c.commit_step.new.self c.self.view_is (refusal_in c.commit_step.result) 0
    (c.commits_take_none.ensures.steps c.self.inside.core c.commit_step.new.self c.args.t.0 c.commit_step.result
    c.self.invariant.lawful c.commit_step.ensures.steps))

pub returns-clause-answers : goal.returns-clause-answers
returns-clause-answers g c = answers_with (means g.D.Disk.meaning places) c.args.self.now c.args.t.0 c.commit_step.result
    ((steps_as g.D.Disk.meaning places c.self.inside.core c.args.self.now c.commit_step.new.self
    c.self.view_is c.self.invariant c.steps_go_on.ensures.steps c.args.t.0 c.commit_step.result c.requires.asked
    c.commit_step.ensures.steps).answers)

pub returns-clause-sessions : goal.returns-clause-sessions
returns-clause-sessions g c = sessions_with (means g.D.Disk.meaning places) c.args.self.now c.commit_step.new.self _ _
    ((steps_as g.D.Disk.meaning places c.self.inside.core c.args.self.now c.commit_step.new.self
    c.self.view_is c.self.invariant c.steps_go_on.ensures.steps c.args.t.0 c.commit_step.result c.requires.asked
    c.commit_step.ensures.steps).sessions)

pub returns-clause-one : goal.returns-clause-one
returns-clause-one g c = written_with (means g.D.Disk.meaning places) c.args.self.now c.commit_step.new.self c.args.t.0 c.commit_step.result
    (steps_one g.D.Disk.meaning places c.self.inside.core c.args.self.now c.commit_step.new.self
    c.self.view_is c.self.invariant c.steps_go_on.ensures.steps c.args.t.0 c.commit_step.result c.requires.asked
    c.commit_step.ensures.steps)

pub returns-clause-written : goal.returns-clause-written
returns-clause-written g c = written_as g.D.Disk.meaning places c.self.inside.core c.args.self.now
    c.commit_step.new.self c.self.view_is c.commit_step.result
    (c.page_writes_ask_one.ensures.steps c.self.inside.core c.commit_step.new.self c.args.t.0 c.commit_step.result
    c.commit_step.ensures.steps)

pub returns-clause-takes : goal.returns-clause-takes
returns-clause-takes g c = c.commits_want_nothing.ensures.steps c.self.inside.core c.commit_step.new.self c.args.t.0
    c.commit_step.result c.commit_step.ensures.steps
