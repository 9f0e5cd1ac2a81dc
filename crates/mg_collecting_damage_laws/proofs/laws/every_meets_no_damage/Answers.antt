use Rattle.mg_collecting_damage_laws.proofs.EveryLemmas.{every_meets_none, every_misses_none}
use Rattle.mg_collecting_damage_laws.proofs.laws.every_meets_no_damage.Goals as goal

pub returns-clause-damage : goal.returns-clause-damage
returns-clause-damage g c = every_meets_none g.row.D.Denot g.D.Disk.meaning (record {
  one = c.one_reading.ensures.packed_rows;
  one_way = c.sound_images_stand_one_way.ensures;
  on = c.tips_stay.ensures.on;
  lists = c.lists_go_on.ensures.stay;
  keep_plain = c.writes_keep_plain.ensures;
  covered = c.garbage_may_go.ensures.covered;
  erased = c.garbage_may_go.ensures.erased;
  begins = c.histories_go_on.ensures.begins;
  walked = c.tables_of_layouts_are_walked.ensures;
  last = c.batches_last.ensures.still;
  reads_last = c.batches_last.ensures.reads;
  holds = g.met.D.Disk.holds;
  records = c.sound_images_are_lawful.ensures.records;
  tables_stand = c.sound_images_are_lawful.ensures.tables;
  whole = c.lawful_tables_are_read.ensures.walks;
  versions = c.lawful_records_are_read.ensures.versions;
  chains = c.lawful_records_are_read.ensures.chains;
  out = c.records_change.ensures.out;
  reads = record {
    there = c.stands_are_read.ensures.there;
    walked = c.stands_are_read.ensures.walked;
    reached = c.stands_are_read.ensures.reached;
    lasts = c.stands_are_read.ensures.lasts;
    taken = c.pages_are_taken.ensures.taken;
    kept = c.pages_are_taken.ensures.kept;
    one = c.one_reading.ensures.packed_rows;
  };
})
    c.records_are_those_of_every_reading.ensures.rows c.lawful_tables_are_read.ensures.tables

pub returns-clause-pages : goal.returns-clause-pages
returns-clause-pages g c = every_misses_none g.row.D.Denot g.D.Disk.meaning (record {
  one = c.one_reading.ensures.packed_rows;
  one_way = c.sound_images_stand_one_way.ensures;
  on = c.tips_stay.ensures.on;
  lists = c.lists_go_on.ensures.stay;
  keep_plain = c.writes_keep_plain.ensures;
  covered = c.garbage_may_go.ensures.covered;
  erased = c.garbage_may_go.ensures.erased;
  begins = c.histories_go_on.ensures.begins;
  walked = c.tables_of_layouts_are_walked.ensures;
  last = c.batches_last.ensures.still;
  reads_last = c.batches_last.ensures.reads;
  holds = g.met.D.Disk.holds;
  records = c.sound_images_are_lawful.ensures.records;
  tables_stand = c.sound_images_are_lawful.ensures.tables;
  whole = c.lawful_tables_are_read.ensures.walks;
  versions = c.lawful_records_are_read.ensures.versions;
  chains = c.lawful_records_are_read.ensures.chains;
  out = c.records_change.ensures.out;
  reads = record {
    there = c.stands_are_read.ensures.there;
    walked = c.stands_are_read.ensures.walked;
    reached = c.stands_are_read.ensures.reached;
    lasts = c.stands_are_read.ensures.lasts;
    taken = c.pages_are_taken.ensures.taken;
    kept = c.pages_are_taken.ensures.kept;
    one = c.one_reading.ensures.packed_rows;
  };
})
    c.records_are_those_of_every_reading.ensures.rows c.lawful_tables_are_read.ensures.tables
