use Rattle.std.proofs.Common.{arith, inr}
use Rattle.mg_engine.specs.Places.{places}
use Rattle.mg_records.specs.Keeping.{refusal_in}
use Rattle.mg_engine.proofs.ApartLemmas.{commits_apart}
use Rattle.mg_engine.proofs.EngineLemmas.{commits_as}
use Rattle.mg_engine.proofs.AskedLemmas.{nothing_no_page}
use Rattle.mg_engine.proofs.ToldLemmas.{room_as, told_as, undamaged_as}
use Rattle.mg_engine.proofs.RoomLemmas.{gives_room}
use Rattle.mg_engine_meaning_laws.specs.Meaning.{means}
use Rattle.mg_no_damage_laws.specs.AlikeRoom.{crash_with, leaves_with, room_with, sessions_with, undamaged_with}
use Rattle.mg_model.specs.declared.event.Event.TheVariants.{Commit}
use Rattle.mg_records.specs.Adding.{fine_or}
use Rattle.mg_engine.proofs.keeping.EngineRecords.commit_end.Goals as goal

pub invariant_of-self : goal.invariant_of-self
invariant_of-self g c = record {
  lawful = c.commit_end.ensures.core;
  apart = commits_apart g.D.Disk.meaning c.self.inside.core c.commit_end.new.self c.args.t.0 c.commit_end.result c.commit_end.ensures.commits
      c.self.invariant.apart;
}

pub returns-clause-adds : goal.returns-clause-adds
returns-clause-adds g c = let it = commits_as g.D.Disk.meaning places c.self.inside.core c.args.self.now c.commit_end.new.self
    c.self.view_is c.self.invariant c.commits_go.ensures c.args.t c.commit_end.result c.requires.written c.commit_end.ensures.commits in
    gives_room g.D.Disk.meaning places c.args.self.now c.commit_end.new.self (Commit c.args.t) c.commit_end.result 0 (λ o h. omega arith)
    (inr (nothing_no_page (refusal_in c.commit_end.result) (c.commits_want_nothing.ensures.ends c.self.inside.core c.commit_end.new.self
    c.args.t.0 c.commit_end.result c.commit_end.ensures.commits)))
    it.leaves.keeps
    (room_as g.D.Disk.meaning places c.self.inside.core c.args.self.now
    c.commit_end.new.self c.self.view_is (refusal_in c.commit_end.result) 0
    (c.commits_take_none.ensures.ends c.self.inside.core c.commit_end.new.self c.args.t.0 c.commit_end.result
    c.self.invariant.lawful c.commit_end.ensures.commits))
    it.adds

pub returns-clause-leaves : goal.returns-clause-leaves
returns-clause-leaves g c = leaves_with (means g.D.Disk.meaning places) c.args.self.now c.commit_end.new.self _ _ _
    ((commits_as g.D.Disk.meaning places c.self.inside.core c.args.self.now c.commit_end.new.self
    c.self.view_is c.self.invariant c.commits_go.ensures c.args.t c.commit_end.result c.requires.written c.commit_end.ensures.commits).leaves)

pub returns-clause-crash : goal.returns-clause-crash
returns-clause-crash g c = crash_with (means g.D.Disk.meaning places) c.args.self.now c.commit_end.new.self (Commit c.args.t) (fine_or c.commit_end.result)
    ((commits_as g.D.Disk.meaning places c.self.inside.core c.args.self.now c.commit_end.new.self
    c.self.view_is c.self.invariant c.commits_go.ensures c.args.t c.commit_end.result c.requires.written c.commit_end.ensures.commits).crash)

pub returns-clause-sessions : goal.returns-clause-sessions
returns-clause-sessions g c = sessions_with (means g.D.Disk.meaning places) c.args.self.now c.commit_end.new.self _ _
    ((commits_as g.D.Disk.meaning places c.self.inside.core c.args.self.now c.commit_end.new.self
    c.self.view_is c.self.invariant c.commits_go.ensures c.args.t c.commit_end.result c.requires.written c.commit_end.ensures.commits).sessions)

pub returns-clause-told : goal.returns-clause-told
returns-clause-told g c = told_as g.D.Disk.meaning places c.self.inside.core c.args.self.now
    c.commit_end.new.self c.self.view_is (refusal_in c.commit_end.result)
    (c.commits_tell_faults.ensures c.self.inside.core c.commit_end.new.self c.args.t.0 c.commit_end.result
    c.commit_end.ensures.commits)

pub returns-clause-undamaged : goal.returns-clause-undamaged
returns-clause-undamaged g c = undamaged_with (means g.D.Disk.meaning places) c.args.self.now c.commit_end.new.self
    (undamaged_as g.D.Disk.meaning places c.self.inside.core c.args.self.now
    c.commit_end.new.self c.self.view_is
    (c.commits_meet_no_damage.ensures.ends c.self.inside.core c.commit_end.new.self c.args.t.0 c.commit_end.result
    c.commit_end.ensures.commits))

pub returns-clause-room : goal.returns-clause-room
returns-clause-room g c = room_with (means g.D.Disk.meaning places) c.args.self.now c.commit_end.new.self _ _
    (room_as g.D.Disk.meaning places c.self.inside.core c.args.self.now
    c.commit_end.new.self c.self.view_is (refusal_in c.commit_end.result) 0
    (c.commits_take_none.ensures.ends c.self.inside.core c.commit_end.new.self c.args.t.0 c.commit_end.result
    c.self.invariant.lawful c.commit_end.ensures.commits))

pub returns-clause-takes : goal.returns-clause-takes
returns-clause-takes g c = λ reserves. c.commits_want_nothing.ensures.ends c.self.inside.core c.commit_end.new.self c.args.t.0
    c.commit_end.result c.commit_end.ensures.commits
