use Rattle.mg_no_damage_laws.proofs.WriteBackLemmas.{back_outs, replacements_are}
use Rattle.mg_no_damage_laws.proofs.writes.newest_versions_change.Goals as goal

pub returns-clause-outs : goal.returns-clause-outs
returns-clause-outs g c = back_outs g.D.Disk.meaning (record {
  there = c.stands_are_read.ensures.there;
  walked = c.stands_are_read.ensures.walked;
  reached = c.stands_are_read.ensures.reached;
  lasts = c.stands_are_read.ensures.lasts;
  taken = c.pages_are_taken.ensures.taken;
  kept = c.pages_are_taken.ensures.kept;
  one = c.one_reading.ensures.packed_rows;
}) c.lawful_records_are_read.ensures.versions
    c.sound_images_are_lawful.ensures.records

pub returns-clause-replaced : goal.returns-clause-replaced
returns-clause-replaced g c = replacements_are g.D.Disk.meaning (record {
  there = c.stands_are_read.ensures.there;
  walked = c.stands_are_read.ensures.walked;
  reached = c.stands_are_read.ensures.reached;
  lasts = c.stands_are_read.ensures.lasts;
  taken = c.pages_are_taken.ensures.taken;
  kept = c.pages_are_taken.ensures.kept;
  one = c.one_reading.ensures.packed_rows;
}) c.lawful_records_are_read.ensures.versions
    c.sound_images_are_lawful.ensures.records
