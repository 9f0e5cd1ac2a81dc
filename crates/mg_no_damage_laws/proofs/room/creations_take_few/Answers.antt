use Rattle.mg_no_damage_laws.specs.CreationRoom.{creations_take_few}
use Rattle.mg_no_damage_laws.proofs.room.creations_take_few.Goals as goal

pub returns : goal.returns
returns g c = creations_take_few g.D.Disk.meaning c.room_is_known.ensures c.pages_are_taken.ensures.kept
    c.creations_grow_few.ensures
