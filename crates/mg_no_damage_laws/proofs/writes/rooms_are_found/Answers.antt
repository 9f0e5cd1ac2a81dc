use Rattle.mg_no_damage_laws.specs.PushLaws.{room_is_found, spots_are_given}
use Rattle.mg_no_damage_laws.proofs.writes.rooms_are_found.Goals as goal

pub returns-clause-room : goal.returns-clause-room
returns-clause-room g c = room_is_found g.D.Disk.meaning (record {
  there = c.stands_are_read.ensures.there;
  walked = c.stands_are_read.ensures.walked;
  reached = c.stands_are_read.ensures.reached;
  lasts = c.stands_are_read.ensures.lasts;
  taken = c.pages_are_taken.ensures.taken;
  kept = c.pages_are_taken.ensures.kept;
  one = c.one_reading.ensures.packed_rows;
})

pub returns-clause-spots : goal.returns-clause-spots
returns-clause-spots g c = spots_are_given g.D.Disk.meaning (record {
  there = c.stands_are_read.ensures.there;
  walked = c.stands_are_read.ensures.walked;
  reached = c.stands_are_read.ensures.reached;
  lasts = c.stands_are_read.ensures.lasts;
  taken = c.pages_are_taken.ensures.taken;
  kept = c.pages_are_taken.ensures.kept;
  one = c.one_reading.ensures.packed_rows;
})
