use Rattle.std.proofs.Common.{refl}
use Rattle.mg_records.specs.Keeping.{refusal_in}
use Rattle.mg_engine.specs.Places.{places}
use Rattle.mg_engine.proofs.KeyCollectLemmas.{beside_as, key_collected_apart, key_with, unpaged_with}
use Rattle.mg_engine.proofs.ReadLemmas.{may_scan}
use Rattle.mg_engine.proofs.RoomLemmas.{reads_room}
use Rattle.mg_engine.proofs.ToldLemmas.{room_as, told_as, undamaged_as}
use Rattle.mg_engine_meaning_laws.specs.Meaning.{means}
use Rattle.mg_no_damage_laws.specs.AlikeRoom.{quietly_with, room_with, sessions_with, undamaged_with}
use Rattle.mg_engine.proofs.collecting.EngineCollects.collect_key.Goals as goal

pub collect_at_key-requires-clause-given : goal.collect_at_key-requires-clause-given
collect_at_key-requires-clause-given g c = may_scan g.D.Disk.meaning c.self.inside.core c.args.self.now c.self.view_is
    c.self.invariant c.args.t.0 c.args.table.now.name c.args.table.now c.requires.table

pub invariant_of-self : goal.invariant_of-self
invariant_of-self g c = record {
  lawful = c.collect_at_key.ensures.core;
  apart = key_collected_apart g.D.Disk.meaning c.self.inside.core c.collect_at_key.new.core c.args.t c.args.table.now
      c.args.key.now c.collect_at_key.result c.collect_at_key.ensures.collects c.self.invariant.apart;
}

pub returns-clause-collects : goal.returns-clause-collects
returns-clause-collects g c = key_with g.D.Disk.meaning c.args.self.now c.collect_at_key.new.core c.args.table.now
    c.args.key.now c.collect_at_key.result
    (beside_as g.D.Disk.meaning c.self.inside.core c.args.self.now c.collect_at_key.new.core c.self.view_is
    c.self.invariant.lawful c.counts_fit.ensures.0 c.counts_fit.ensures.1 c.key_collections_go_on.ensures c.args.t
    c.args.table.now c.args.key.now c.collect_at_key.result c.requires.table c.collect_at_key.ensures.collects).collects

pub returns-clause-outside : goal.returns-clause-outside
returns-clause-outside g c =
    (beside_as g.D.Disk.meaning c.self.inside.core c.args.self.now c.collect_at_key.new.core c.self.view_is
    c.self.invariant.lawful c.counts_fit.ensures.0 c.counts_fit.ensures.1 c.key_collections_go_on.ensures c.args.t
    c.args.table.now c.args.key.now c.collect_at_key.result c.requires.table
    c.collect_at_key.ensures.collects).beside.outside

pub returns-clause-reads : goal.returns-clause-reads
returns-clause-reads g c = reads_room g.D.Disk.meaning places c.args.self.now c.collect_at_key.new.core _ _
    (room_as g.D.Disk.meaning places c.args.self.now c.args.self.now c.collect_at_key.new.core refl
    (refusal_in c.collect_at_key.result) 0
    (beside_as g.D.Disk.meaning c.self.inside.core c.args.self.now c.collect_at_key.new.core c.self.view_is
    c.self.invariant.lawful c.counts_fit.ensures.0 c.counts_fit.ensures.1 c.key_collections_go_on.ensures c.args.t
    c.args.table.now c.args.key.now c.collect_at_key.result c.requires.table
    c.collect_at_key.ensures.collects).beside.room)
    (beside_as g.D.Disk.meaning c.self.inside.core c.args.self.now c.collect_at_key.new.core c.self.view_is
    c.self.invariant.lawful c.counts_fit.ensures.0 c.counts_fit.ensures.1 c.key_collections_go_on.ensures c.args.t
    c.args.table.now c.args.key.now c.collect_at_key.result c.requires.table
    c.collect_at_key.ensures.collects).beside.reads

pub returns-clause-told : goal.returns-clause-told
returns-clause-told g c = told_as g.D.Disk.meaning places c.args.self.now c.args.self.now c.collect_at_key.new.core refl
    (refusal_in c.collect_at_key.result)
    (beside_as g.D.Disk.meaning c.self.inside.core c.args.self.now c.collect_at_key.new.core c.self.view_is
    c.self.invariant.lawful c.counts_fit.ensures.0 c.counts_fit.ensures.1 c.key_collections_go_on.ensures c.args.t
    c.args.table.now c.args.key.now c.collect_at_key.result c.requires.table
    c.collect_at_key.ensures.collects).beside.told

pub returns-clause-undamaged : goal.returns-clause-undamaged
returns-clause-undamaged g c = undamaged_with (means g.D.Disk.meaning places) c.args.self.now c.collect_at_key.new.core
    (undamaged_as g.D.Disk.meaning places c.args.self.now c.args.self.now c.collect_at_key.new.core refl
    (beside_as g.D.Disk.meaning c.self.inside.core c.args.self.now c.collect_at_key.new.core c.self.view_is
    c.self.invariant.lawful c.counts_fit.ensures.0 c.counts_fit.ensures.1 c.key_collections_go_on.ensures c.args.t
    c.args.table.now c.args.key.now c.collect_at_key.result c.requires.table
    c.collect_at_key.ensures.collects).beside.undamaged)

pub returns-clause-room : goal.returns-clause-room
returns-clause-room g c = room_with (means g.D.Disk.meaning places) c.args.self.now c.collect_at_key.new.core _ _
    (room_as g.D.Disk.meaning places c.args.self.now c.args.self.now c.collect_at_key.new.core refl
    (refusal_in c.collect_at_key.result) 0
    (beside_as g.D.Disk.meaning c.self.inside.core c.args.self.now c.collect_at_key.new.core c.self.view_is
    c.self.invariant.lawful c.counts_fit.ensures.0 c.counts_fit.ensures.1 c.key_collections_go_on.ensures c.args.t
    c.args.table.now c.args.key.now c.collect_at_key.result c.requires.table
    c.collect_at_key.ensures.collects).beside.room)

pub returns-clause-unpaged : goal.returns-clause-unpaged
returns-clause-unpaged g c = unpaged_with g.D.Disk.meaning c.args.self.now (refusal_in c.collect_at_key.result)
    (beside_as g.D.Disk.meaning c.self.inside.core c.args.self.now c.collect_at_key.new.core c.self.view_is
    c.self.invariant.lawful c.counts_fit.ensures.0 c.counts_fit.ensures.1 c.key_collections_go_on.ensures c.args.t
    c.args.table.now c.args.key.now c.collect_at_key.result c.requires.table
    c.collect_at_key.ensures.collects).beside.unpaged

pub returns-clause-crash : goal.returns-clause-crash
returns-clause-crash g c = quietly_with (means g.D.Disk.meaning places) c.args.self.now c.collect_at_key.new.core
    (beside_as g.D.Disk.meaning c.self.inside.core c.args.self.now c.collect_at_key.new.core c.self.view_is
    c.self.invariant.lawful c.counts_fit.ensures.0 c.counts_fit.ensures.1 c.key_collections_go_on.ensures c.args.t
    c.args.table.now c.args.key.now c.collect_at_key.result c.requires.table
    c.collect_at_key.ensures.collects).beside.crash

pub returns-clause-sessions : goal.returns-clause-sessions
returns-clause-sessions g c = sessions_with (means g.D.Disk.meaning places) c.args.self.now c.collect_at_key.new.core _ _
    (beside_as g.D.Disk.meaning c.self.inside.core c.args.self.now c.collect_at_key.new.core c.self.view_is
    c.self.invariant.lawful c.counts_fit.ensures.0 c.counts_fit.ensures.1 c.key_collections_go_on.ensures c.args.t
    c.args.table.now c.args.key.now c.collect_at_key.result c.requires.table
    c.collect_at_key.ensures.collects).beside.sessions
