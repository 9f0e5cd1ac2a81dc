use Rattle.std.proofs.Common.{arith, inr}
use Rattle.mg_engine.specs.Places.{places}
use Rattle.mg_records.specs.Keeping.{refusal_in}
use Rattle.mg_engine.proofs.ApartLemmas.{rollbacks_apart}
use Rattle.mg_engine.proofs.EngineLemmas.{rollbacks_as}
use Rattle.mg_engine.proofs.AskedLemmas.{nothing_no_page, unwritten_as}
use Rattle.mg_engine.proofs.ToldLemmas.{room_as, told_as, undamaged_as}
use Rattle.mg_engine.proofs.RoomLemmas.{gives_room}
use Rattle.mg_engine_meaning_laws.specs.Meaning.{means}
use Rattle.mg_no_damage_laws.specs.AlikeRoom.{leaves_with, quietly_with, room_with, sessions_with, undamaged_with}
use Rattle.mg_model.specs.declared.event.Event.TheVariants.{Rollback}
use Rattle.mg_engine.proofs.keeping.EngineRecords.rollback.Goals as goal

pub invariant_of-self : goal.invariant_of-self
invariant_of-self g c = record {
  lawful = c.rollback.ensures.core;
  apart = rollbacks_apart c.self.inside.core c.rollback.new.self c.args.t.0 c.rollback.result c.rollback.ensures.rolls
      c.self.invariant.apart;
}

pub returns-clause-adds : goal.returns-clause-adds
returns-clause-adds g c = let it = rollbacks_as g.D.Disk.meaning places c.self.inside.core c.args.self.now c.rollback.new.self
    c.self.view_is c.self.invariant c.rollbacks_go.ensures c.args.t c.rollback.result c.rollback.ensures.rolls in
    gives_room g.D.Disk.meaning places c.args.self.now c.rollback.new.self (Rollback c.args.t) c.rollback.result 0 (λ o h. omega arith)
    (inr (nothing_no_page (refusal_in c.rollback.result) (c.commits_want_nothing.ensures.rollbacks c.self.inside.core c.rollback.new.self
    c.args.t.0 c.rollback.result c.rollback.ensures.rolls)))
    it.leaves.keeps
    (room_as g.D.Disk.meaning places c.self.inside.core c.args.self.now
    c.rollback.new.self c.self.view_is (refusal_in c.rollback.result) 0
    (c.events_take_none.ensures.rollbacks c.self.inside.core c.rollback.new.self c.args.t.0 c.rollback.result
    c.rollback.ensures.rolls))
    it.adds

pub returns-clause-leaves : goal.returns-clause-leaves
returns-clause-leaves g c = leaves_with (means g.D.Disk.meaning places) c.args.self.now c.rollback.new.self _ _ _
    ((rollbacks_as g.D.Disk.meaning places c.self.inside.core c.args.self.now c.rollback.new.self
    c.self.view_is c.self.invariant c.rollbacks_go.ensures c.args.t c.rollback.result c.rollback.ensures.rolls).leaves)

pub returns-clause-crash : goal.returns-clause-crash
returns-clause-crash g c = quietly_with (means g.D.Disk.meaning places) c.args.self.now c.rollback.new.self
    ((rollbacks_as g.D.Disk.meaning places c.self.inside.core c.args.self.now c.rollback.new.self
    c.self.view_is c.self.invariant c.rollbacks_go.ensures c.args.t c.rollback.result c.rollback.ensures.rolls).crash)

pub returns-clause-sessions : goal.returns-clause-sessions
returns-clause-sessions g c = sessions_with (means g.D.Disk.meaning places) c.args.self.now c.rollback.new.self _ _
    ((rollbacks_as g.D.Disk.meaning places c.self.inside.core c.args.self.now c.rollback.new.self
    c.self.view_is c.self.invariant c.rollbacks_go.ensures c.args.t c.rollback.result c.rollback.ensures.rolls).sessions)

pub returns-clause-told : goal.returns-clause-told
returns-clause-told g c = told_as g.D.Disk.meaning places c.self.inside.core c.args.self.now
    c.rollback.new.self c.self.view_is (refusal_in c.rollback.result)
    (c.events_tell_faults.ensures.rollbacks c.self.inside.core c.rollback.new.self c.args.t.0 c.rollback.result
    c.rollback.ensures.rolls)

pub returns-clause-undamaged : goal.returns-clause-undamaged
returns-clause-undamaged g c = undamaged_with (means g.D.Disk.meaning places) c.args.self.now c.rollback.new.self
    (undamaged_as g.D.Disk.meaning places c.self.inside.core c.args.self.now
    c.rollback.new.self c.self.view_is
    (c.events_meet_no_damage.ensures.rollbacks c.self.inside.core c.rollback.new.self c.args.t.0 c.rollback.result
    c.rollback.ensures.rolls))

pub returns-clause-room : goal.returns-clause-room
returns-clause-room g c = room_with (means g.D.Disk.meaning places) c.args.self.now c.rollback.new.self _ _
    (room_as g.D.Disk.meaning places c.self.inside.core c.args.self.now
    c.rollback.new.self c.self.view_is (refusal_in c.rollback.result) 0
    (c.events_take_none.ensures.rollbacks c.self.inside.core c.rollback.new.self c.args.t.0 c.rollback.result
    c.rollback.ensures.rolls))

pub returns-clause-unwritten : goal.returns-clause-unwritten
returns-clause-unwritten g c = unwritten_as g.D.Disk.meaning places c.self.inside.core c.args.self.now
    c.rollback.new.self c.self.view_is
    (c.events_write_none.ensures.rollbacks c.self.inside.core c.rollback.new.self c.args.t.0 c.rollback.result
    c.rollback.ensures.rolls)

pub returns-clause-takes : goal.returns-clause-takes
returns-clause-takes g c = λ reserves. c.commits_want_nothing.ensures.rollbacks c.self.inside.core c.rollback.new.self c.args.t.0
    c.rollback.result c.rollback.ensures.rolls
