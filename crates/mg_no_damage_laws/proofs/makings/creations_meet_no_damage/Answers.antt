use Rattle.mg_no_damage_laws.proofs.CreationLemmas.{creations}
use Rattle.mg_no_damage_laws.proofs.makings.creations_meet_no_damage.Goals as goal

pub returns : goal.returns
returns g c = creations g.D.Disk.meaning (record {
  counts_now = g.met.D.Disk.counts_now;
  records = c.sound_images_are_lawful.ensures.records;
  stand = c.sound_images_are_lawful.ensures.tables;
  rows_found = c.reads_meet_no_damage.ensures.rows;
  passed = c.reads_meet_no_damage.ensures.records;
  speakers = c.keys_are_answered.ensures.speakers;
  rows = c.keys_are_answered.ensures.rows;
  obstacles = c.keys_are_answered.ensures.obstacles;
  begin = c.histories_go_on.ensures.begins;
  one = c.one_reading.ensures.packed_rows;
  stay = c.catalogs_grow.ensures.stay;
  new = c.catalogs_grow.ensures.own;
  speak = c.records_are_those_of_every_reading.ensures.speakers;
  made = c.tables_are_made.ensures;
})
