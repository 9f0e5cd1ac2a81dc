use Rattle.mg_no_damage_laws.proofs.OutLemmas.{back_outs_go_on}
use Rattle.mg_no_damage_laws.proofs.writes.versions_go_out.Goals as goal

pub returns : goal.returns
returns g c = back_outs_go_on g.D.Disk.meaning (record {
  there = c.stands_are_read.ensures.there;
  walked = c.stands_are_read.ensures.walked;
  reached = c.stands_are_read.ensures.reached;
  lasts = c.stands_are_read.ensures.lasts;
  taken = c.pages_are_taken.ensures.taken;
  kept = c.pages_are_taken.ensures.kept;
  one = c.one_reading.ensures.packed_rows;
}) c.lawful_records_are_read.ensures.versions c.sound_images_are_lawful.ensures.records
