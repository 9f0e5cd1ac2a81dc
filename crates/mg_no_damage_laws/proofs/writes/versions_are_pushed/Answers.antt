use Rattle.mg_no_damage_laws.specs.PushLaws.{pushes_are_filled}
use Rattle.mg_no_damage_laws.proofs.writes.versions_are_pushed.Goals as goal

pub returns : goal.returns
returns g c = pushes_are_filled g.D.Disk.meaning (record {
  there = c.stands_are_read.ensures.there;
  walked = c.stands_are_read.ensures.walked;
  reached = c.stands_are_read.ensures.reached;
  lasts = c.stands_are_read.ensures.lasts;
  taken = c.pages_are_taken.ensures.taken;
  kept = c.pages_are_taken.ensures.kept;
  one = c.one_reading.ensures.packed_rows;
})
