use Rattle.mg_records.specs.Keeping.{refusal_in}
use Rattle.mg_engine.specs.Places.{places}
use Rattle.mg_engine.proofs.ReadLemmas.{table_apart, tables_as}
use Rattle.mg_engine.proofs.AskedLemmas.{unwritten_as}
use Rattle.mg_engine.proofs.ToldLemmas.{room_as, told_as, undamaged_as}
use Rattle.mg_engine.proofs.RoomLemmas.{reads_room}
use Rattle.mg_engine_meaning_laws.specs.Meaning.{means}
use Rattle.mg_no_damage_laws.specs.AlikeRoom.{given_with, quietly_with, room_with, sessions_with, table_with, undamaged_with}
use Rattle.mg_engine.proofs.keeping.EngineRecords.table.Goals as goal

pub invariant_of-self : goal.invariant_of-self
invariant_of-self g c = record {
  lawful = c.table.ensures.core;
  apart = table_apart g.D.Disk.meaning c.self.inside.core c.table.new.self c.args.t c.args.name.now c.table.result
      c.table.ensures.table c.self.invariant.apart;
}

pub returns-clause-table : goal.returns-clause-table
returns-clause-table g c = table_with (means g.D.Disk.meaning places) c.args.self.now c.args.t.0 c.args.name.now c.table.result
    ((tables_as g.D.Disk.meaning c.self.inside.core c.args.self.now c.table.new.self
    c.self.view_is c.self.invariant c.counts_fit.ensures.0 c.counts_fit.ensures.1 c.tables_go_on.ensures c.args.t
    c.args.name.now c.table.result c.table.ensures.table).table)

pub returns-clause-given : goal.returns-clause-given
returns-clause-given g c = given_with (means g.D.Disk.meaning places) c.table.new.self c.args.t.0 c.args.name.now c.table.result
    ((tables_as g.D.Disk.meaning c.self.inside.core c.args.self.now c.table.new.self
    c.self.view_is c.self.invariant c.counts_fit.ensures.0 c.counts_fit.ensures.1 c.tables_go_on.ensures c.args.t
    c.args.name.now c.table.result c.table.ensures.table).given)

pub returns-clause-reads : goal.returns-clause-reads
returns-clause-reads g c = reads_room g.D.Disk.meaning places c.args.self.now c.table.new.self _ _
    (room_as g.D.Disk.meaning places c.self.inside.core c.args.self.now
    c.table.new.self c.self.view_is (refusal_in c.table.result) 0
    (c.readings_take_none.ensures.tables c.self.inside.core c.table.new.self c.args.t c.args.name.now c.table.result
    c.table.ensures.table))
    ((tables_as g.D.Disk.meaning c.self.inside.core c.args.self.now c.table.new.self
    c.self.view_is c.self.invariant c.counts_fit.ensures.0 c.counts_fit.ensures.1 c.tables_go_on.ensures c.args.t
    c.args.name.now c.table.result c.table.ensures.table).reads)

pub returns-clause-crash : goal.returns-clause-crash
returns-clause-crash g c = quietly_with (means g.D.Disk.meaning places) c.args.self.now c.table.new.self
    ((tables_as g.D.Disk.meaning c.self.inside.core c.args.self.now c.table.new.self
    c.self.view_is c.self.invariant c.counts_fit.ensures.0 c.counts_fit.ensures.1 c.tables_go_on.ensures c.args.t
    c.args.name.now c.table.result c.table.ensures.table).crash)

pub returns-clause-sessions : goal.returns-clause-sessions
returns-clause-sessions g c = sessions_with (means g.D.Disk.meaning places) c.args.self.now c.table.new.self _ _
    ((tables_as g.D.Disk.meaning c.self.inside.core c.args.self.now c.table.new.self
    c.self.view_is c.self.invariant c.counts_fit.ensures.0 c.counts_fit.ensures.1 c.tables_go_on.ensures c.args.t
    c.args.name.now c.table.result c.table.ensures.table).sessions)

pub returns-clause-told : goal.returns-clause-told
returns-clause-told g c = told_as g.D.Disk.meaning places c.self.inside.core c.args.self.now
    c.table.new.self c.self.view_is (refusal_in c.table.result)
    (c.readings_tell_faults.ensures.tables c.self.inside.core c.table.new.self c.args.t c.args.name.now c.table.result
    c.table.ensures.table)

pub returns-clause-undamaged : goal.returns-clause-undamaged
returns-clause-undamaged g c = undamaged_with (means g.D.Disk.meaning places) c.args.self.now c.table.new.self
    (undamaged_as g.D.Disk.meaning places c.self.inside.core c.args.self.now
    c.table.new.self c.self.view_is
    (c.tables_meet_no_damage.ensures c.self.inside.core c.table.new.self c.args.t c.args.name.now c.table.result
    c.self.invariant.lawful c.table.ensures.table))

pub returns-clause-room : goal.returns-clause-room
returns-clause-room g c = room_with (means g.D.Disk.meaning places) c.args.self.now c.table.new.self _ _
    (room_as g.D.Disk.meaning places c.self.inside.core c.args.self.now
    c.table.new.self c.self.view_is (refusal_in c.table.result) 0
    (c.readings_take_none.ensures.tables c.self.inside.core c.table.new.self c.args.t c.args.name.now c.table.result
    c.table.ensures.table))

pub returns-clause-unwritten : goal.returns-clause-unwritten
returns-clause-unwritten g c = unwritten_as g.D.Disk.meaning places c.self.inside.core c.args.self.now
    c.table.new.self c.self.view_is
    (c.readings_write_none.ensures.tables c.self.inside.core c.table.new.self c.args.t c.args.name.now c.table.result
    c.table.ensures.table)
