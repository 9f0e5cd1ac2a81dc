use Rattle.std.proofs.Common.{refl}
use Rattle.mg_space.specs.ViewLaws.{faults_noted, keeps_itself, keeps_noted}
use Rattle.mg_space.proofs.rooms.note_room.Goals as goal

pub returns-in_default-clause-keeps : goal.returns-in_default-clause-keeps
returns-in_default-clause-keeps g c = keeps_itself g.D.Disk.meaning c.args.store.now c.requires

pub returns-in_default-clause-faults : goal.returns-in_default-clause-faults
returns-in_default-clause-faults g c = refl

pub returns-clause-keeps : goal.returns-clause-keeps
returns-clause-keeps g c = keeps_noted g.D.Disk.meaning c.args.store.now c.note_room.new.self
    c.note_room.ensures.pool c.note_room.ensures.same

pub returns-clause-faults : goal.returns-clause-faults
returns-clause-faults g c = faults_noted g.D.Disk.meaning c.args.store.now c.note_room.new.self
    c.note_room.ensures.same
