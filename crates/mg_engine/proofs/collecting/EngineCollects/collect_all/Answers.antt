use Rattle.mg_records.specs.Keeping.{refusal_in}
use Rattle.mg_engine.specs.Places.{places}
use Rattle.mg_engine.proofs.EveryLemmas.{every_apart, every_collected, every_nobodys, every_unpaged}
use Rattle.mg_engine.proofs.RoomLemmas.{reads_room}
use Rattle.mg_engine.proofs.ToldLemmas.{room_as, told_as, undamaged_as}
use Rattle.mg_engine_meaning_laws.specs.Meaning.{means}
use Rattle.mg_no_damage_laws.specs.AlikeRoom.{quietly_with, room_with, sessions_with, undamaged_with}
use Rattle.mg_engine.proofs.collecting.EngineCollects.collect_all.Goals as goal

pub invariant_of-self : goal.invariant_of-self
invariant_of-self g c = record {
  lawful = c.collect_every.ensures.core;
  apart = every_apart g.D.Disk.meaning c.self.inside.core c.collect_every.new.core c.collect_every.result
      c.collect_every.ensures.collects c.self.invariant.apart;
}

pub returns-clause-collects : goal.returns-clause-collects
returns-clause-collects g c = every_collected g.D.Disk.meaning c.self.inside.core c.args.self.now
    c.collect_every.new.core c.self.view_is c.self.invariant c.every_leaves.ensures c.collect_every.result
    c.collect_every.ensures.collects

pub returns-clause-outside : goal.returns-clause-outside
returns-clause-outside g c = (every_nobodys g.D.Disk.meaning c.self.inside.core c.args.self.now
    c.collect_every.new.core c.self.view_is c.self.invariant c.counts_fit.ensures.0 c.counts_fit.ensures.1
    c.every_is_nobodys.ensures c.collect_every.result c.collect_every.ensures.collects).outside

pub returns-clause-reads : goal.returns-clause-reads
returns-clause-reads g c = reads_room g.D.Disk.meaning places c.args.self.now c.collect_every.new.core _ _
    (room_as g.D.Disk.meaning places c.self.inside.core c.args.self.now c.collect_every.new.core c.self.view_is
    (refusal_in c.collect_every.result) 0
    (c.every_takes_none.ensures c.self.inside.core c.collect_every.new.core c.collect_every.result
    c.self.invariant.lawful c.collect_every.ensures.collects))
    (every_nobodys g.D.Disk.meaning c.self.inside.core c.args.self.now c.collect_every.new.core c.self.view_is
    c.self.invariant c.counts_fit.ensures.0 c.counts_fit.ensures.1 c.every_is_nobodys.ensures c.collect_every.result
    c.collect_every.ensures.collects).reads

pub returns-clause-told : goal.returns-clause-told
returns-clause-told g c = told_as g.D.Disk.meaning places c.self.inside.core c.args.self.now c.collect_every.new.core
    c.self.view_is (refusal_in c.collect_every.result)
    (c.every_tells_faults.ensures c.self.inside.core c.collect_every.new.core c.collect_every.result
    c.collect_every.ensures.collects)

pub returns-clause-undamaged : goal.returns-clause-undamaged
returns-clause-undamaged g c = undamaged_with (means g.D.Disk.meaning places) c.args.self.now c.collect_every.new.core
    (undamaged_as g.D.Disk.meaning places c.self.inside.core c.args.self.now c.collect_every.new.core c.self.view_is
    (c.every_meets_no_damage.ensures.damage c.self.inside.core c.collect_every.new.core c.collect_every.result
    c.self.invariant.lawful c.collect_every.ensures.collects))

pub returns-clause-room : goal.returns-clause-room
returns-clause-room g c = room_with (means g.D.Disk.meaning places) c.args.self.now c.collect_every.new.core _ _
    (room_as g.D.Disk.meaning places c.self.inside.core c.args.self.now c.collect_every.new.core c.self.view_is
    (refusal_in c.collect_every.result) 0
    (c.every_takes_none.ensures c.self.inside.core c.collect_every.new.core c.collect_every.result
    c.self.invariant.lawful c.collect_every.ensures.collects))

pub returns-clause-unpaged : goal.returns-clause-unpaged
returns-clause-unpaged g c = every_unpaged g.D.Disk.meaning c.self.inside.core c.args.self.now
    c.collect_every.new.core c.self.view_is c.self.invariant c.every_meets_no_damage.ensures.pages
    c.collect_every.result c.collect_every.ensures.collects

pub returns-clause-crash : goal.returns-clause-crash
returns-clause-crash g c = quietly_with (means g.D.Disk.meaning places) c.args.self.now c.collect_every.new.core
    (every_nobodys g.D.Disk.meaning c.self.inside.core c.args.self.now c.collect_every.new.core c.self.view_is
    c.self.invariant c.counts_fit.ensures.0 c.counts_fit.ensures.1 c.every_is_nobodys.ensures c.collect_every.result
    c.collect_every.ensures.collects).crash

pub returns-clause-sessions : goal.returns-clause-sessions
returns-clause-sessions g c = sessions_with (means g.D.Disk.meaning places) c.args.self.now c.collect_every.new.core _ _
    (every_nobodys g.D.Disk.meaning c.self.inside.core c.args.self.now c.collect_every.new.core c.self.view_is
    c.self.invariant c.counts_fit.ensures.0 c.counts_fit.ensures.1 c.every_is_nobodys.ensures c.collect_every.result
    c.collect_every.ensures.collects).sessions
