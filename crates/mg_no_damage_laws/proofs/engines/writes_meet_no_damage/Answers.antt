use Rattle.mg_no_damage_laws.specs.EntryTrees.{no_places}
use Rattle.mg_no_damage_laws.proofs.WriteLemmas.{writes}
use Rattle.mg_no_damage_laws.proofs.engines.writes_meet_no_damage.Goals as goal

pub returns : goal.returns
returns g c = writes g.D.Disk.meaning no_places (record {
  speakers = c.keys_are_answered.ensures.speakers;
  obstacles = c.keys_are_answered.ensures.obstacles;
  rows = c.keys_are_answered.ensures.rows;
  nothing = c.keys_are_answered.ensures.nothing;
  begin = c.histories_go_on.ensures.begins;
  verdicts = c.verdicts_are_the_machines.ensures;
  nobody = c.notes_follow_the_machine.ensures.none;
  befores = c.befores_are_told.ensures;
  follow = c.made_writes_follow.ensures;
  may_write = c.seen_may_be_written.ensures;
  coded = c.stored_rows_are_coded.ensures;
  lists = c.lists_go_on.ensures.stay;
  dirs = record {
    one_way = c.sound_images_stand_one_way.ensures;
    walked = c.tables_of_layouts_are_walked.ensures;
    speakers = c.records_are_those_of_every_reading.ensures.speakers;
  };
  counts_now = g.met.D.Disk.counts_now;
  unask = c.unasking_lasts.ensures;
  starts = c.first_batches_stay.ensures.starts;
  all = c.first_batches_stay.ensures.all;
  rows_enter = c.first_batches_stay.ensures.rows;
  entries_lawful = c.insertions_meet_none.ensures.lawful;
  entries_none = c.insertions_meet_none.ensures.none c.pages_are_taken.ensures.kept;
  taken = c.pages_are_taken.ensures.taken;
  places_of = c.records_are_those_of_every_reading.ensures.places;
  records = c.sound_images_are_lawful.ensures.records;
  stand = c.sound_images_are_lawful.ensures.tables;
  placed = c.records_are_made.ensures.places;
  room = c.records_are_made.ensures.room;
  made = c.records_are_made.ensures.made;
  pushed = c.records_change.ensures.pushed;
  replaced = c.records_change.ensures.replaced;
  out = c.records_change.ensures.out;
}) (record {
  keyed = c.rows_are_keyed.ensures.tables;
  named = c.writes_have_keys.ensures;
  tables = c.reads_meet_no_damage.ensures.tables;
  rows = c.reads_meet_no_damage.ensures.rows;
  records = c.reads_meet_no_damage.ensures.records;
  befores = c.reads_meet_no_damage.ensures.befores;
}) c.noted_tables_are_quiet.ensures.works c.noted_tables_are_quiet.ensures.kept c.noted_tables_are_quiet.ensures.stands
