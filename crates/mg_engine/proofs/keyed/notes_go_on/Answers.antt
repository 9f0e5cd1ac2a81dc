use Rattle.mg_engine.proofs.NotingLemmas.{notes_go_on}
use Rattle.mg_engine.proofs.keyed.notes_go_on.Goals as goal

pub returns : goal.returns
returns g c = notes_go_on g.D.Disk.meaning (record {
  reads = c.reads_go_on.ensures;
  begin = c.histories_go_on.ensures.begins;
  last = c.batches_last.ensures.reads;
  walked = c.tables_of_layouts_are_walked.ensures;
  keys = c.records_are_those_of_every_reading.ensures.keys;
  one_way = c.sound_images_stand_one_way.ensures;
})
