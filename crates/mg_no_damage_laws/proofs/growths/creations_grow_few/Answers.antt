use Rattle.mg_no_damage_laws.proofs.CatalogGrowthLemmas.{creations_grow}
use Rattle.mg_no_damage_laws.proofs.growths.creations_grow_few.Goals as goal

pub returns : goal.returns
returns g c = creations_grow g.D.Disk.meaning (record {
  counts_now = g.met.D.Disk.counts_now;
  records = c.sound_images_are_lawful.ensures.records;
  stand = c.sound_images_are_lawful.ensures.tables;
  rows_found = c.reads_meet_no_damage.ensures.rows;
  passed = c.reads_meet_no_damage.ensures.records;
  speakers = c.keys_are_answered.ensures.speakers;
  rows = c.keys_are_answered.ensures.rows;
  obstacles = c.keys_are_answered.ensures.obstacles;
  begin = c.histories_go_on.ensures.begins;
  one = c.one_reading.ensures.packed_rows;
  stay = c.catalogs_grow.ensures.stay;
  new = c.catalogs_grow.ensures.own;
  speak = c.records_are_those_of_every_reading.ensures.speakers;
  made = c.tables_are_made.ensures;
}) (record {
  there = c.stands_are_read.ensures.there;
  walked = c.stands_are_read.ensures.walked;
  reached = c.stands_are_read.ensures.reached;
  lasts = c.stands_are_read.ensures.lasts;
  taken = c.pages_are_taken.ensures.taken;
  kept = c.pages_are_taken.ensures.kept;
  one = c.one_reading.ensures.packed_rows;
}) g.met.D.Disk.holds
