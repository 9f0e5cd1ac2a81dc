use Rattle.mg_engine.proofs.KeyedLemmas.{keys_go_on}
use Rattle.mg_engine.proofs.keyed.keys_go_on.Goals as goal

pub returns : goal.returns
returns g c = keys_go_on g.D.Disk.meaning (record {
  reads = c.reads_go_on.ensures;
  speakers = c.keys_are_answered.ensures.speakers;
  rows = c.keys_are_answered.ensures.rows;
  nothing = c.keys_are_answered.ensures.nothing;
  views = c.chains_tell.ensures.views;
  begin = c.histories_go_on.ensures.begins;
  found = c.reads_meet_no_damage.ensures.rows;
  records = c.sound_images_are_lawful.ensures.records;
  stand = c.sound_images_are_lawful.ensures.tables;
  walked = c.tables_of_layouts_are_walked.ensures;
  speaks = c.records_are_those_of_every_reading.ensures.speakers;
  notes = c.notes_go_on.ensures;
  noted = c.reads_meet_no_damage.ensures.noted;
})
