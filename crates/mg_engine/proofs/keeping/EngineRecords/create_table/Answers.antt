use Rattle.mg_engine.specs.Places.{places}
use Rattle.mg_records.specs.Keeping.{refusal_in}
use Rattle.mg_engine.proofs.MakingLemmas.{makes_apart, makes_as, makes_room, makes_undamaged}
use Rattle.mg_engine.proofs.ToldLemmas.{told_as}
use Rattle.mg_engine.proofs.RoomLemmas.{makes_table_room}
use Rattle.mg_engine_meaning_laws.specs.Meaning.{means}
use Rattle.mg_no_damage_laws.specs.AlikeRoom.{leaves_with, quietly_with, room_with, sessions_with, undamaged_with}
use Rattle.mg_engine.proofs.keeping.EngineRecords.create_table.Goals as goal

pub invariant_of-self : goal.invariant_of-self
invariant_of-self g c = record {
  lawful = c.create_table.ensures.core;
  apart = makes_apart g.D.Disk.meaning places c.self.inside.core c.args.self.now c.create_table.new.core
      c.self.view_is c.self.invariant c.counts_fit.ensures.0 c.counts_fit.ensures.1 c.args.t c.args.name.now
      c.args.shape.now c.requires.named c.requires.other c.requires.shape c.requires.pages
      c.creations_keep_apart.ensures.made c.creations_keep_apart.ensures.refused
      c.create_table.result c.create_table.ensures.creates;
}

pub returns-clause-adds : goal.returns-clause-adds
returns-clause-adds g c = let it = makes_as g.D.Disk.meaning places c.self.inside.core c.args.self.now c.create_table.new.core
    c.self.view_is c.self.invariant c.counts_fit.ensures.0 c.counts_fit.ensures.1 c.args.t c.args.name.now
    c.args.shape.now c.requires.named c.requires.other c.requires.shape c.requires.pages
    c.tables_are_made.ensures.made c.tables_are_made.ensures.refused c.create_table.result
    c.create_table.ensures.creates in
    makes_table_room g.D.Disk.meaning places c.args.self.now c.create_table.new.core c.args.t c.args.name.now c.args.shape.now (refusal_in c.create_table.result)
    c.requires.shape.most
    it.leaves.keeps
    (makes_room g.D.Disk.meaning places c.self.inside.core c.args.self.now
    c.create_table.new.core c.self.view_is c.self.invariant c.counts_fit.ensures.0 c.counts_fit.ensures.1 c.args.t
    c.args.name.now c.args.shape.now c.requires.named c.requires.other c.requires.shape c.requires.pages
    c.creations_take_few.ensures
    c.create_table.result c.create_table.ensures.creates)
    it.makes

pub returns-clause-leaves : goal.returns-clause-leaves
returns-clause-leaves g c = leaves_with (means g.D.Disk.meaning places) c.args.self.now c.create_table.new.core _ _ _
    ((makes_as g.D.Disk.meaning places c.self.inside.core c.args.self.now c.create_table.new.core
    c.self.view_is c.self.invariant c.counts_fit.ensures.0 c.counts_fit.ensures.1 c.args.t c.args.name.now
    c.args.shape.now c.requires.named c.requires.other c.requires.shape c.requires.pages
    c.tables_are_made.ensures.made c.tables_are_made.ensures.refused c.create_table.result
    c.create_table.ensures.creates).leaves)

pub returns-clause-crash : goal.returns-clause-crash
returns-clause-crash g c = quietly_with (means g.D.Disk.meaning places) c.args.self.now c.create_table.new.core
    ((makes_as g.D.Disk.meaning places c.self.inside.core c.args.self.now c.create_table.new.core
    c.self.view_is c.self.invariant c.counts_fit.ensures.0 c.counts_fit.ensures.1 c.args.t c.args.name.now
    c.args.shape.now c.requires.named c.requires.other c.requires.shape c.requires.pages
    c.tables_are_made.ensures.made c.tables_are_made.ensures.refused c.create_table.result
    c.create_table.ensures.creates).crash)

pub returns-clause-sessions : goal.returns-clause-sessions
returns-clause-sessions g c = sessions_with (means g.D.Disk.meaning places) c.args.self.now c.create_table.new.core _ _
    ((makes_as g.D.Disk.meaning places c.self.inside.core c.args.self.now c.create_table.new.core
    c.self.view_is c.self.invariant c.counts_fit.ensures.0 c.counts_fit.ensures.1 c.args.t c.args.name.now
    c.args.shape.now c.requires.named c.requires.other c.requires.shape c.requires.pages
    c.tables_are_made.ensures.made c.tables_are_made.ensures.refused c.create_table.result
    c.create_table.ensures.creates).sessions)

pub returns-clause-told : goal.returns-clause-told
returns-clause-told g c = told_as g.D.Disk.meaning places c.self.inside.core c.args.self.now
    c.create_table.new.core c.self.view_is (refusal_in c.create_table.result)
    (c.changes_tell_faults.ensures.makings c.self.inside.core c.create_table.new.core c.args.t c.args.name.now
    c.args.shape.now c.create_table.result c.create_table.ensures.creates)

pub returns-clause-undamaged : goal.returns-clause-undamaged
returns-clause-undamaged g c = undamaged_with (means g.D.Disk.meaning places) c.args.self.now c.create_table.new.core
    (makes_undamaged g.D.Disk.meaning places c.self.inside.core c.args.self.now
    c.create_table.new.core c.self.view_is c.self.invariant c.counts_fit.ensures.0 c.counts_fit.ensures.1 c.args.t
    c.args.name.now c.args.shape.now c.requires.named c.requires.other c.requires.shape c.requires.pages
    c.creations_meet_no_damage.ensures
    c.create_table.result c.create_table.ensures.creates)

pub returns-clause-room : goal.returns-clause-room
returns-clause-room g c = room_with (means g.D.Disk.meaning places) c.args.self.now c.create_table.new.core _ _
    (makes_room g.D.Disk.meaning places c.self.inside.core c.args.self.now
    c.create_table.new.core c.self.view_is c.self.invariant c.counts_fit.ensures.0 c.counts_fit.ensures.1 c.args.t
    c.args.name.now c.args.shape.now c.requires.named c.requires.other c.requires.shape c.requires.pages
    c.creations_take_few.ensures
    c.create_table.result c.create_table.ensures.creates)
