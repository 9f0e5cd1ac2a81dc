use Rattle.std.proofs.Common.{inl}
use Rattle.mg_engine.specs.Places.{places}
use Rattle.mg_records.specs.Keeping.{refusal_in}
use Rattle.mg_records.specs.Room.{pages_of_row}
use Rattle.mg_engine.proofs.ReadLemmas.{may_scan}
use Rattle.mg_engine.proofs.WriteLemmas.{changes_as, gives_as}
use Rattle.mg_engine.proofs.ToldLemmas.{room_as, told_as, undamaged_as}
use Rattle.mg_engine.proofs.RoomLemmas.{gives_room}
use Rattle.mg_engine_meaning_laws.specs.Meaning.{means}
use Rattle.mg_no_damage_laws.specs.AlikeRoom.{leaves_with, quietly_with, room_with, sessions_with, undamaged_with}
use Rattle.mg_records.specs.Adding.{fine_or}
use Rattle.mg_no_damage_laws.specs.WithRoom.{write_least, write_takes}
use Rattle.mg_records.specs.Writing.{event_of}
use Rattle.mg_engine.proofs.keeping.EngineRecords.write_step.Goals as goal

pub write_row-requires-clause-given : goal.write_row-requires-clause-given
write_row-requires-clause-given g c = may_scan g.D.Disk.meaning c.self.inside.core c.args.self.now c.self.view_is
    c.self.invariant c.args.t.0 c.args.table.now.name c.args.table.now c.requires.table

pub invariant_of-self : goal.invariant_of-self
invariant_of-self g c = record {
  lawful = c.write_row.ensures.core;
  apart = (changes_as g.D.Disk.meaning places c.self.inside.core c.args.self.now c.write_row.new.core
      c.self.view_is c.self.invariant c.counts_fit.ensures.0 c.counts_fit.ensures.1 c.args.t c.args.table.now
      c.args.write.now c.requires.table c.requires.fits (may_scan g.D.Disk.meaning
      c.self.inside.core c.args.self.now c.self.view_is c.self.invariant c.args.t.0 c.args.table.now.name
      c.args.table.now c.requires.table) c.changes_go_on.ensures c.write_row.result c.write_row.ensures.writes).apart;
}

pub returns-clause-adds : goal.returns-clause-adds
returns-clause-adds g c = let it = gives_as g.D.Disk.meaning places c.self.inside.core c.args.self.now c.write_row.new.core
    c.self.view_is c.self.invariant c.counts_fit.ensures.0 c.counts_fit.ensures.1 c.args.t c.args.table.now
    c.args.write.now c.requires.table c.requires.fits c.write_row.result
    (changes_as g.D.Disk.meaning places c.self.inside.core c.args.self.now c.write_row.new.core
    c.self.view_is c.self.invariant c.counts_fit.ensures.0 c.counts_fit.ensures.1 c.args.t c.args.table.now
    c.args.write.now c.requires.table c.requires.fits (may_scan g.D.Disk.meaning
    c.self.inside.core c.args.self.now c.self.view_is c.self.invariant c.args.t.0 c.args.table.now.name
    c.args.table.now c.requires.table) c.changes_go_on.ensures c.write_row.result c.write_row.ensures.writes) in
    gives_room g.D.Disk.meaning places c.args.self.now c.write_row.new.core
    (event_of c.args.t c.args.table.now.name c.args.write.now) c.write_row.result pages_of_row
    (λ o h. write_least o h c.args.t c.args.table.now.name c.args.write.now (fine_or c.write_row.result))
    (inl (write_takes c.args.t c.args.table.now.name c.args.write.now))
    it.leaves.keeps
    (room_as g.D.Disk.meaning places c.self.inside.core c.args.self.now
    c.write_row.new.core c.self.view_is (refusal_in c.write_row.result) pages_of_row
    (changes_as g.D.Disk.meaning places c.self.inside.core c.args.self.now c.write_row.new.core
    c.self.view_is c.self.invariant c.counts_fit.ensures.0 c.counts_fit.ensures.1 c.args.t c.args.table.now
    c.args.write.now c.requires.table c.requires.fits (may_scan g.D.Disk.meaning
    c.self.inside.core c.args.self.now c.self.view_is c.self.invariant c.args.t.0 c.args.table.now.name
    c.args.table.now c.requires.table) c.changes_go_on.ensures c.write_row.result c.write_row.ensures.writes).room)
    it.adds

pub returns-clause-leaves : goal.returns-clause-leaves
returns-clause-leaves g c = leaves_with (means g.D.Disk.meaning places) c.args.self.now c.write_row.new.core _ _ _
    ((gives_as g.D.Disk.meaning places c.self.inside.core c.args.self.now c.write_row.new.core
    c.self.view_is c.self.invariant c.counts_fit.ensures.0 c.counts_fit.ensures.1 c.args.t c.args.table.now
    c.args.write.now c.requires.table c.requires.fits c.write_row.result
    (changes_as g.D.Disk.meaning places c.self.inside.core c.args.self.now c.write_row.new.core
    c.self.view_is c.self.invariant c.counts_fit.ensures.0 c.counts_fit.ensures.1 c.args.t c.args.table.now
    c.args.write.now c.requires.table c.requires.fits (may_scan g.D.Disk.meaning
    c.self.inside.core c.args.self.now c.self.view_is c.self.invariant c.args.t.0 c.args.table.now.name
    c.args.table.now c.requires.table) c.changes_go_on.ensures c.write_row.result c.write_row.ensures.writes)).leaves)

pub returns-clause-crash : goal.returns-clause-crash
returns-clause-crash g c = quietly_with (means g.D.Disk.meaning places) c.args.self.now c.write_row.new.core
    ((gives_as g.D.Disk.meaning places c.self.inside.core c.args.self.now c.write_row.new.core
    c.self.view_is c.self.invariant c.counts_fit.ensures.0 c.counts_fit.ensures.1 c.args.t c.args.table.now
    c.args.write.now c.requires.table c.requires.fits c.write_row.result
    (changes_as g.D.Disk.meaning places c.self.inside.core c.args.self.now c.write_row.new.core
    c.self.view_is c.self.invariant c.counts_fit.ensures.0 c.counts_fit.ensures.1 c.args.t c.args.table.now
    c.args.write.now c.requires.table c.requires.fits (may_scan g.D.Disk.meaning
    c.self.inside.core c.args.self.now c.self.view_is c.self.invariant c.args.t.0 c.args.table.now.name
    c.args.table.now c.requires.table) c.changes_go_on.ensures c.write_row.result c.write_row.ensures.writes)).crash)

pub returns-clause-sessions : goal.returns-clause-sessions
returns-clause-sessions g c = sessions_with (means g.D.Disk.meaning places) c.args.self.now c.write_row.new.core _ _
    ((gives_as g.D.Disk.meaning places c.self.inside.core c.args.self.now c.write_row.new.core
    c.self.view_is c.self.invariant c.counts_fit.ensures.0 c.counts_fit.ensures.1 c.args.t c.args.table.now
    c.args.write.now c.requires.table c.requires.fits c.write_row.result
    (changes_as g.D.Disk.meaning places c.self.inside.core c.args.self.now c.write_row.new.core
    c.self.view_is c.self.invariant c.counts_fit.ensures.0 c.counts_fit.ensures.1 c.args.t c.args.table.now
    c.args.write.now c.requires.table c.requires.fits (may_scan g.D.Disk.meaning
    c.self.inside.core c.args.self.now c.self.view_is c.self.invariant c.args.t.0 c.args.table.now.name
    c.args.table.now c.requires.table) c.changes_go_on.ensures c.write_row.result c.write_row.ensures.writes)).sessions)

pub returns-clause-told : goal.returns-clause-told
returns-clause-told g c = told_as g.D.Disk.meaning places c.self.inside.core c.args.self.now
    c.write_row.new.core c.self.view_is (refusal_in c.write_row.result)
    (changes_as g.D.Disk.meaning places c.self.inside.core c.args.self.now c.write_row.new.core
    c.self.view_is c.self.invariant c.counts_fit.ensures.0 c.counts_fit.ensures.1 c.args.t c.args.table.now
    c.args.write.now c.requires.table c.requires.fits (may_scan g.D.Disk.meaning
    c.self.inside.core c.args.self.now c.self.view_is c.self.invariant c.args.t.0 c.args.table.now.name
    c.args.table.now c.requires.table) c.changes_go_on.ensures c.write_row.result c.write_row.ensures.writes).told

pub returns-clause-undamaged : goal.returns-clause-undamaged
returns-clause-undamaged g c = undamaged_with (means g.D.Disk.meaning places) c.args.self.now c.write_row.new.core
    (undamaged_as g.D.Disk.meaning places c.self.inside.core c.args.self.now c.write_row.new.core c.self.view_is
    (changes_as g.D.Disk.meaning places c.self.inside.core c.args.self.now c.write_row.new.core
    c.self.view_is c.self.invariant c.counts_fit.ensures.0 c.counts_fit.ensures.1 c.args.t c.args.table.now
    c.args.write.now c.requires.table c.requires.fits (may_scan g.D.Disk.meaning
    c.self.inside.core c.args.self.now c.self.view_is c.self.invariant c.args.t.0 c.args.table.now.name
    c.args.table.now c.requires.table) c.changes_go_on.ensures c.write_row.result c.write_row.ensures.writes).undamaged)

pub returns-clause-room : goal.returns-clause-room
returns-clause-room g c = room_with (means g.D.Disk.meaning places) c.args.self.now c.write_row.new.core _ _
    (room_as g.D.Disk.meaning places c.self.inside.core c.args.self.now
    c.write_row.new.core c.self.view_is (refusal_in c.write_row.result) pages_of_row
    (changes_as g.D.Disk.meaning places c.self.inside.core c.args.self.now c.write_row.new.core
    c.self.view_is c.self.invariant c.counts_fit.ensures.0 c.counts_fit.ensures.1 c.args.t c.args.table.now
    c.args.write.now c.requires.table c.requires.fits (may_scan g.D.Disk.meaning
    c.self.inside.core c.args.self.now c.self.view_is c.self.invariant c.args.t.0 c.args.table.now.name
    c.args.table.now c.requires.table) c.changes_go_on.ensures c.write_row.result c.write_row.ensures.writes).room)
