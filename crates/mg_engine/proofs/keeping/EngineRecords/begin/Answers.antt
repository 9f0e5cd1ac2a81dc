use Rattle.std.proofs.Common.{arith, false, subst, sym, ◌≡◌, inl, refl}
use Rattle.mg_core.specs.declared.parts.Core.{Core}
use Rattle.mg_works.specs.Works.{has_session}
use Rattle.mg_engine.specs.Places.{places}
use Rattle.mg_records.specs.Keeping.{refusal_in}
use Rattle.mg_records.specs.Room.{pages_of_begin}
use Rattle.mg_engine.proofs.BeginLemmas.{begins_apart, begins_as}
use Rattle.mg_engine.proofs.ToldLemmas.{room_as, told_as, undamaged_as}
use Rattle.mg_engine.proofs.RoomLemmas.{numbers_room}
use Rattle.mg_engine_meaning_laws.specs.Meaning.{means}
use Rattle.mg_no_damage_laws.specs.AlikeRoom.{leaves_with, quietly_with, room_with, sessions_with, undamaged_with}
use Rattle.mg_model.specs.declared.event.Event.TheVariants.{Begin}
use Rattle.mg_engine.proofs.keeping.EngineRecords.begin.Goals as goal

pub begin-requires-clause-free : goal.begin-requires-clause-free
begin-requires-clause-free g c = subst (λ (core : Core g.row.D.Denot). has_session core.works c.args.session ≡ false)
    (sym c.self.view_is) c.requires.free

pub invariant_of-self : goal.invariant_of-self
invariant_of-self g c = record {
  lawful = c.begin.ensures.core;
  apart = begins_apart g.D.Disk.meaning c.self.inside.core c.begin.new.self c.args.session c.args.mode c.begin.result
      c.self.invariant.lawful c.requires.session (subst (λ (core : Core g.row.D.Denot).
      has_session core.works c.args.session ≡ false) (sym c.self.view_is) c.requires.free) c.begin.ensures.begins
      c.self.invariant.apart;
}

pub returns-clause-adds : goal.returns-clause-adds
returns-clause-adds g c = let it = begins_as g.D.Disk.meaning places c.self.inside.core c.args.self.now c.begin.new.self
    c.self.view_is c.self.invariant c.begins_give.ensures c.args.session c.args.mode c.begin.result c.begin.ensures.core
    c.tell_counts.ensures c.requires.session c.requires.free c.begin.ensures.begins in
    numbers_room g.D.Disk.meaning places c.args.self.now c.begin.new.self (Begin c.args.session c.args.mode) c.begin.result pages_of_begin
    (λ o h. omega arith) (inl refl)
    it.0.leaves.keeps
    (room_as g.D.Disk.meaning places c.self.inside.core c.args.self.now
    c.begin.new.self c.self.view_is (refusal_in c.begin.result) pages_of_begin
    (c.begins_take_few.ensures c.self.inside.core c.begin.new.self c.args.session c.args.mode c.begin.result
    c.self.invariant.lawful c.begin.ensures.begins))
    it.0.adds

pub returns-clause-leaves : goal.returns-clause-leaves
returns-clause-leaves g c = leaves_with (means g.D.Disk.meaning places) c.args.self.now c.begin.new.self _ _ _
    ((begins_as g.D.Disk.meaning places c.self.inside.core c.args.self.now c.begin.new.self
    c.self.view_is c.self.invariant c.begins_give.ensures c.args.session c.args.mode c.begin.result c.begin.ensures.core
    c.tell_counts.ensures c.requires.session c.requires.free c.begin.ensures.begins).0.leaves)

pub returns-clause-crash : goal.returns-clause-crash
returns-clause-crash g c = quietly_with (means g.D.Disk.meaning places) c.args.self.now c.begin.new.self
    ((begins_as g.D.Disk.meaning places c.self.inside.core c.args.self.now c.begin.new.self
    c.self.view_is c.self.invariant c.begins_give.ensures c.args.session c.args.mode c.begin.result c.begin.ensures.core
    c.tell_counts.ensures c.requires.session c.requires.free c.begin.ensures.begins).0.crash)

pub returns-clause-sessions : goal.returns-clause-sessions
returns-clause-sessions g c = sessions_with (means g.D.Disk.meaning places) c.args.self.now c.begin.new.self _ _
    ((begins_as g.D.Disk.meaning places c.self.inside.core c.args.self.now c.begin.new.self
    c.self.view_is c.self.invariant c.begins_give.ensures c.args.session c.args.mode c.begin.result c.begin.ensures.core
    c.tell_counts.ensures c.requires.session c.requires.free c.begin.ensures.begins).0.sessions)

pub returns-clause-works : goal.returns-clause-works
returns-clause-works g c = (begins_as g.D.Disk.meaning places c.self.inside.core c.args.self.now c.begin.new.self
    c.self.view_is c.self.invariant c.begins_give.ensures c.args.session c.args.mode c.begin.result c.begin.ensures.core
    c.tell_counts.ensures c.requires.session c.requires.free c.begin.ensures.begins).1

pub returns-clause-told : goal.returns-clause-told
returns-clause-told g c = told_as g.D.Disk.meaning places c.self.inside.core c.args.self.now
    c.begin.new.self c.self.view_is (refusal_in c.begin.result)
    (c.begins_tell_faults.ensures c.self.inside.core c.begin.new.self c.args.session c.args.mode c.begin.result
    c.begin.ensures.begins)

pub returns-clause-undamaged : goal.returns-clause-undamaged
returns-clause-undamaged g c = undamaged_with (means g.D.Disk.meaning places) c.args.self.now c.begin.new.self
    (undamaged_as g.D.Disk.meaning places c.self.inside.core c.args.self.now
    c.begin.new.self c.self.view_is
    (c.begins_meet_no_damage.ensures c.self.inside.core c.begin.new.self c.args.session c.args.mode c.begin.result
    c.self.invariant.lawful c.begin.ensures.begins))

pub returns-clause-room : goal.returns-clause-room
returns-clause-room g c = room_with (means g.D.Disk.meaning places) c.args.self.now c.begin.new.self _ _
    (room_as g.D.Disk.meaning places c.self.inside.core c.args.self.now
    c.begin.new.self c.self.view_is (refusal_in c.begin.result) pages_of_begin
    (c.begins_take_few.ensures c.self.inside.core c.begin.new.self c.args.session c.args.mode c.begin.result
    c.self.invariant.lawful c.begin.ensures.begins))
