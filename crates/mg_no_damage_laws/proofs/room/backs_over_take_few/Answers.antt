use Rattle.mg_no_damage_laws.specs.BackOverRoom.{marks_over_take_few, savepoints_over_take_few}
use Rattle.mg_no_damage_laws.proofs.room.backs_over_take_few.Goals as goal

pub returns : goal.returns
returns g c = record {
  marks = marks_over_take_few g.D.Disk.meaning c.room_is_known.ensures c.counts_are_known.ensures
      c.trees_stand_back.ensures.others;
  savepoints = savepoints_over_take_few g.D.Disk.meaning c.room_is_known.ensures c.counts_are_known.ensures
      c.trees_stand_back.ensures.others;
}
