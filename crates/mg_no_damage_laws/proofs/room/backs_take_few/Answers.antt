use Rattle.mg_no_damage_laws.specs.BackRoom.{marks_take_few, savepoints_take_few}
use Rattle.mg_no_damage_laws.proofs.room.backs_take_few.Goals as goal

pub returns : goal.returns
returns g c = record {
  marks = marks_take_few g.D.Disk.meaning c.room_is_known.ensures c.counts_are_known.ensures
      c.trees_stand_back.ensures.all;
  savepoints = savepoints_take_few g.D.Disk.meaning c.room_is_known.ensures c.counts_are_known.ensures
      c.trees_stand_back.ensures.all;
}
