use Rattle.mg_no_damage_laws.proofs.WalkLemmas.{visits_meet_none}
use Rattle.mg_no_damage_laws.proofs.walks.visits_meet_no_damage.Goals as goal

pub returns : goal.returns
returns g c = visits_meet_none g.row.D.Denot g.D.Disk.meaning (record {
  visits = c.lawful_tables_are_read.ensures.visits;
  there = c.pages_are_there.ensures;
  ascend = c.walks_ascend.ensures;
  tables = c.rows_are_keyed.ensures.tables;
  rows = c.rows_are_keyed.ensures.rows;
  later = c.rows_are_keyed.ensures.later;
  fit = c.rows_are_keyed.ensures.fit;
  lawful = c.sound_images_are_lawful.ensures.records;
  stand = c.sound_images_are_lawful.ensures.tables;
  order = c.walks_are_whole.ensures.order;
  readings = c.records_are_those_of_every_reading.ensures.places;
})
