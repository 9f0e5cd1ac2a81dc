use Rattle.std.proofs.Common.{refl}
use Rattle.mg_records.specs.Keeping.{refusal_in}
use Rattle.mg_engine.specs.Places.{places}
use Rattle.mg_engine.proofs.CollectLemmas.{collected_apart, collects_as, given_as, nobodys_as, unpaged_as}
use Rattle.mg_engine.proofs.ReadLemmas.{may_scan}
use Rattle.mg_engine.proofs.RoomLemmas.{reads_room}
use Rattle.mg_engine.proofs.ToldLemmas.{room_as, told_as, undamaged_as}
use Rattle.mg_engine_meaning_laws.specs.Meaning.{means}
use Rattle.mg_no_damage_laws.specs.AlikeRoom.{quietly_with, room_with, sessions_with, undamaged_with}
use Rattle.mg_engine.proofs.collecting.EngineCollects.collect_place.Goals as goal

pub collect_place-requires-clause-may : goal.collect_place-requires-clause-may
collect_place-requires-clause-may g c = may_scan g.D.Disk.meaning c.self.inside.core c.args.self.now c.self.view_is
    c.self.invariant c.args.t.0 c.args.table.now.name c.args.table.now c.requires.table

pub invariant_of-self : goal.invariant_of-self
invariant_of-self g c = record {
  lawful = c.collect_place.ensures.core;
  apart = collected_apart g.D.Disk.meaning c.self.inside.core c.collect_place.new.core c.args.t c.args.table.now
      c.args.place.now.rec c.collect_place.result c.collect_place.ensures.collects c.self.invariant.apart;
}

pub returns-clause-collects : goal.returns-clause-collects
returns-clause-collects g c = collects_as g.D.Disk.meaning c.self.inside.core c.args.self.now c.collect_place.new.core
    c.self.view_is c.self.invariant c.args.t c.args.table.now c.args.place.now c.requires.table
    c.collections_leave.ensures c.collect_place.result c.collect_place.ensures.collects

pub returns-clause-outside : goal.returns-clause-outside
returns-clause-outside g c = (nobodys_as g.D.Disk.meaning c.self.inside.core c.args.self.now c.collect_place.new.core
    c.self.view_is c.self.invariant c.args.t c.args.table.now c.args.place.now c.requires.table c.counts_fit.ensures.0
    c.counts_fit.ensures.1 c.collections_are_nobodys.ensures c.collect_place.result
    c.collect_place.ensures.collects).outside

pub returns-clause-reads : goal.returns-clause-reads
returns-clause-reads g c = reads_room g.D.Disk.meaning places c.args.self.now c.collect_place.new.core _ _
    (room_as g.D.Disk.meaning places c.self.inside.core c.args.self.now c.collect_place.new.core c.self.view_is
    (refusal_in c.collect_place.result) 0
    (c.collections_take_none.ensures c.self.inside.core c.collect_place.new.core c.args.t c.args.table.now
    c.args.place.now.rec c.collect_place.result c.self.invariant.lawful c.collect_place.ensures.collects))
    (nobodys_as g.D.Disk.meaning c.self.inside.core c.args.self.now c.collect_place.new.core
    c.self.view_is c.self.invariant c.args.t c.args.table.now c.args.place.now c.requires.table c.counts_fit.ensures.0
    c.counts_fit.ensures.1 c.collections_are_nobodys.ensures c.collect_place.result
    c.collect_place.ensures.collects).reads

pub returns-clause-far : goal.returns-clause-far
returns-clause-far g c = λ t table after. refl

pub returns-clause-told : goal.returns-clause-told
returns-clause-told g c = told_as g.D.Disk.meaning places c.self.inside.core c.args.self.now c.collect_place.new.core
    c.self.view_is (refusal_in c.collect_place.result)
    (c.collections_tell_faults.ensures c.self.inside.core c.collect_place.new.core c.args.t c.args.table.now
    c.args.place.now.rec c.collect_place.result c.collect_place.ensures.collects)

pub returns-clause-undamaged : goal.returns-clause-undamaged
returns-clause-undamaged g c = undamaged_with (means g.D.Disk.meaning places) c.args.self.now c.collect_place.new.core
    (undamaged_as g.D.Disk.meaning places c.self.inside.core c.args.self.now c.collect_place.new.core c.self.view_is
    (c.collections_meet_no_damage.ensures.damage c.self.inside.core c.collect_place.new.core c.args.t c.args.table.now
    c.args.place.now.rec c.collect_place.result c.self.invariant.lawful
    (given_as g.D.Disk.meaning c.self.inside.core c.args.self.now c.collect_place.new.core c.self.view_is
    c.self.invariant c.args.t c.args.table.now c.args.place.now c.requires.table) c.collect_place.ensures.collects))

pub returns-clause-room : goal.returns-clause-room
returns-clause-room g c = room_with (means g.D.Disk.meaning places) c.args.self.now c.collect_place.new.core _ _
    (room_as g.D.Disk.meaning places c.self.inside.core c.args.self.now c.collect_place.new.core c.self.view_is
    (refusal_in c.collect_place.result) 0
    (c.collections_take_none.ensures c.self.inside.core c.collect_place.new.core c.args.t c.args.table.now
    c.args.place.now.rec c.collect_place.result c.self.invariant.lawful c.collect_place.ensures.collects))

pub returns-clause-unpaged : goal.returns-clause-unpaged
returns-clause-unpaged g c = unpaged_as g.D.Disk.meaning c.self.inside.core c.args.self.now c.collect_place.new.core
    c.self.view_is c.self.invariant c.args.t c.args.table.now c.args.place.now c.requires.table
    c.collections_meet_no_damage.ensures.pages c.collect_place.result c.collect_place.ensures.collects

pub returns-clause-crash : goal.returns-clause-crash
returns-clause-crash g c = quietly_with (means g.D.Disk.meaning places) c.args.self.now c.collect_place.new.core
    (nobodys_as g.D.Disk.meaning c.self.inside.core c.args.self.now c.collect_place.new.core
    c.self.view_is c.self.invariant c.args.t c.args.table.now c.args.place.now c.requires.table c.counts_fit.ensures.0
    c.counts_fit.ensures.1 c.collections_are_nobodys.ensures c.collect_place.result
    c.collect_place.ensures.collects).crash

pub returns-clause-sessions : goal.returns-clause-sessions
returns-clause-sessions g c = sessions_with (means g.D.Disk.meaning places) c.args.self.now c.collect_place.new.core _ _
    (nobodys_as g.D.Disk.meaning c.self.inside.core c.args.self.now c.collect_place.new.core
    c.self.view_is c.self.invariant c.args.t c.args.table.now c.args.place.now c.requires.table c.counts_fit.ensures.0
    c.counts_fit.ensures.1 c.collections_are_nobodys.ensures c.collect_place.result
    c.collect_place.ensures.collects).sessions
