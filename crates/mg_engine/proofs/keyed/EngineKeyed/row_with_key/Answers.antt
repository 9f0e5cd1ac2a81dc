use Rattle.mg_records.specs.Keeping.{refusal_in}
use Rattle.mg_engine.specs.Places.{places}
use Rattle.mg_engine.proofs.AskedLemmas.{unwritten_as}
use Rattle.mg_engine.proofs.KeyedLemmas.{finds_with, gives_as, keyed_with, keys_apart}
use Rattle.mg_engine.proofs.ReadLemmas.{may_scan}
use Rattle.mg_engine.proofs.ToldLemmas.{room_as, told_as, undamaged_as}
use Rattle.mg_engine.proofs.RoomLemmas.{reads_room}
use Rattle.mg_engine_meaning_laws.specs.Meaning.{means}
use Rattle.mg_no_damage_laws.specs.AlikeRoom.{answers_with, quietly_with, room_with, sessions_with, undamaged_with}
use Rattle.std.proofs.Common.{refl}
use Rattle.mg_engine.proofs.keyed.EngineKeyed.row_with_key.Goals as goal

pub row_of_noted_key-requires-clause-given : goal.row_of_noted_key-requires-clause-given
row_of_noted_key-requires-clause-given g c = may_scan g.D.Disk.meaning c.self.inside.core c.args.self.now c.self.view_is
    c.self.invariant c.args.t.0 c.args.table.now.name c.args.table.now c.requires.table

pub invariant_of-self : goal.invariant_of-self
invariant_of-self g c = record {
  lawful = c.row_of_noted_key.ensures.core;
  apart = keys_apart g.D.Disk.meaning c.self.inside.core c.row_of_noted_key.new.core c.args.t c.args.table.now
      c.args.key.now c.row_of_noted_key.result c.row_of_noted_key.ensures.answers c.self.invariant.apart;
}

pub returns-clause-finds : goal.returns-clause-finds
returns-clause-finds g c = finds_with (means g.D.Disk.meaning places) c.args.self.now c.args.t.0 c.args.table.now.name
    c.args.key.now c.row_of_noted_key.result
    (gives_as g.D.Disk.meaning c.self.inside.core c.args.self.now c.row_of_noted_key.new.core
    c.self.view_is c.counts_fit.ensures.0 c.counts_fit.ensures.1 c.keys_go_on.ensures c.args.t c.args.table.now
    c.args.key.now c.row_of_noted_key.result c.requires.table c.row_of_noted_key.ensures.answers).finds

pub returns-clause-keyed : goal.returns-clause-keyed
returns-clause-keyed g c = keyed_with (means g.D.Disk.meaning places) c.args.self.now c.args.t.0 c.args.table.now
    c.row_of_noted_key.result
    (gives_as g.D.Disk.meaning c.self.inside.core c.args.self.now c.row_of_noted_key.new.core
    c.self.view_is c.counts_fit.ensures.0 c.counts_fit.ensures.1 c.keys_go_on.ensures c.args.t c.args.table.now
    c.args.key.now c.row_of_noted_key.result c.requires.table c.row_of_noted_key.ensures.answers).keyed

pub returns-clause-answers : goal.returns-clause-answers
returns-clause-answers g c = answers_with (means g.D.Disk.meaning places) c.args.self.now c.args.t.0 c.row_of_noted_key.result
    (gives_as g.D.Disk.meaning c.self.inside.core c.args.self.now c.row_of_noted_key.new.core
    c.self.view_is c.counts_fit.ensures.0 c.counts_fit.ensures.1 c.keys_go_on.ensures c.args.t c.args.table.now
    c.args.key.now c.row_of_noted_key.result c.requires.table c.row_of_noted_key.ensures.answers).answers

pub returns-clause-reads : goal.returns-clause-reads
returns-clause-reads g c = reads_room g.D.Disk.meaning places c.args.self.now c.row_of_noted_key.new.core _ _
    (room_as g.D.Disk.meaning places c.args.self.now c.args.self.now c.row_of_noted_key.new.core refl
    (refusal_in c.row_of_noted_key.result) 0 (gives_as g.D.Disk.meaning c.self.inside.core c.args.self.now c.row_of_noted_key.new.core
    c.self.view_is c.counts_fit.ensures.0 c.counts_fit.ensures.1 c.keys_go_on.ensures c.args.t c.args.table.now
    c.args.key.now c.row_of_noted_key.result c.requires.table c.row_of_noted_key.ensures.answers).room)
    (gives_as g.D.Disk.meaning c.self.inside.core c.args.self.now c.row_of_noted_key.new.core
    c.self.view_is c.counts_fit.ensures.0 c.counts_fit.ensures.1 c.keys_go_on.ensures c.args.t c.args.table.now
    c.args.key.now c.row_of_noted_key.result c.requires.table c.row_of_noted_key.ensures.answers).reads

pub returns-clause-told : goal.returns-clause-told
returns-clause-told g c = told_as g.D.Disk.meaning places c.args.self.now c.args.self.now c.row_of_noted_key.new.core refl
    (refusal_in c.row_of_noted_key.result) (gives_as g.D.Disk.meaning c.self.inside.core c.args.self.now c.row_of_noted_key.new.core
    c.self.view_is c.counts_fit.ensures.0 c.counts_fit.ensures.1 c.keys_go_on.ensures c.args.t c.args.table.now
    c.args.key.now c.row_of_noted_key.result c.requires.table c.row_of_noted_key.ensures.answers).told

pub returns-clause-undamaged : goal.returns-clause-undamaged
returns-clause-undamaged g c = undamaged_with (means g.D.Disk.meaning places) c.args.self.now c.row_of_noted_key.new.core
    (undamaged_as g.D.Disk.meaning places c.args.self.now c.args.self.now c.row_of_noted_key.new.core refl
    (gives_as g.D.Disk.meaning c.self.inside.core c.args.self.now c.row_of_noted_key.new.core
    c.self.view_is c.counts_fit.ensures.0 c.counts_fit.ensures.1 c.keys_go_on.ensures c.args.t c.args.table.now
    c.args.key.now c.row_of_noted_key.result c.requires.table c.row_of_noted_key.ensures.answers).undamaged)

pub returns-clause-room : goal.returns-clause-room
returns-clause-room g c = room_with (means g.D.Disk.meaning places) c.args.self.now c.row_of_noted_key.new.core _ _
    (room_as g.D.Disk.meaning places c.args.self.now c.args.self.now c.row_of_noted_key.new.core refl
    (refusal_in c.row_of_noted_key.result) 0 (gives_as g.D.Disk.meaning c.self.inside.core c.args.self.now c.row_of_noted_key.new.core
    c.self.view_is c.counts_fit.ensures.0 c.counts_fit.ensures.1 c.keys_go_on.ensures c.args.t c.args.table.now
    c.args.key.now c.row_of_noted_key.result c.requires.table c.row_of_noted_key.ensures.answers).room)

pub returns-clause-unwritten : goal.returns-clause-unwritten
returns-clause-unwritten g c = unwritten_as g.D.Disk.meaning places c.args.self.now c.args.self.now
    c.row_of_noted_key.new.core refl (gives_as g.D.Disk.meaning c.self.inside.core c.args.self.now c.row_of_noted_key.new.core
    c.self.view_is c.counts_fit.ensures.0 c.counts_fit.ensures.1 c.keys_go_on.ensures c.args.t c.args.table.now
    c.args.key.now c.row_of_noted_key.result c.requires.table c.row_of_noted_key.ensures.answers).unwritten

pub returns-clause-crash : goal.returns-clause-crash
returns-clause-crash g c = quietly_with (means g.D.Disk.meaning places) c.args.self.now c.row_of_noted_key.new.core
    (gives_as g.D.Disk.meaning c.self.inside.core c.args.self.now c.row_of_noted_key.new.core
    c.self.view_is c.counts_fit.ensures.0 c.counts_fit.ensures.1 c.keys_go_on.ensures c.args.t c.args.table.now
    c.args.key.now c.row_of_noted_key.result c.requires.table c.row_of_noted_key.ensures.answers).crash

pub returns-clause-sessions : goal.returns-clause-sessions
returns-clause-sessions g c = sessions_with (means g.D.Disk.meaning places) c.args.self.now c.row_of_noted_key.new.core _ _
    (gives_as g.D.Disk.meaning c.self.inside.core c.args.self.now c.row_of_noted_key.new.core
    c.self.view_is c.counts_fit.ensures.0 c.counts_fit.ensures.1 c.keys_go_on.ensures c.args.t c.args.table.now
    c.args.key.now c.row_of_noted_key.result c.requires.table c.row_of_noted_key.ensures.answers).sessions
