use Rattle.mg_no_damage_laws.specs.BeginRoom.{begins}
use Rattle.mg_no_damage_laws.proofs.room.begins_take_few.Goals as goal

pub returns : goal.returns
returns g c = begins g.D.Disk.meaning g.met.D.Disk.holds c.pages_are_taken.ensures.kept
