use Rattle.mg_no_damage_laws.proofs.BackKeyLemmas.{keys_meet_no_damage, keys_miss_no_page}
use Rattle.mg_no_damage_laws.proofs.backs.keys_meet_no_damage.Goals as goal

pub returns : goal.returns
returns g c = record {
  damage = keys_meet_no_damage g.D.Disk.meaning c.kept_tables_stand.ensures.stand c.kept_tables_stand.ensures.named
      c.keys_are_those_of_the_history.ensures.speakers c.records_are_those_of_every_reading.ensures.places
      c.sound_images_are_lawful.ensures.records c.sound_images_are_lawful.ensures.tables
      c.lawful_tables_are_read.ensures.tables c.keys_are_read.ensures.ways c.records_change.ensures.out
      c.records_change.ensures.replaced c.keys_enter_midway.ensures (record {
        lawful = c.insertions_meet_none.ensures.lawful;
        none = c.insertions_meet_none.ensures.none c.pages_are_taken.ensures.kept;
        taken = c.pages_are_taken.ensures.taken;
      });
  pages = keys_miss_no_page g.D.Disk.meaning;
}
