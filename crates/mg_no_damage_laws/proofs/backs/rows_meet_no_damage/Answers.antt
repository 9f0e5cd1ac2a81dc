use Rattle.mg_no_damage_laws.proofs.BackRowLemmas.{rows_meet_no_damage}
use Rattle.mg_no_damage_laws.proofs.backs.rows_meet_no_damage.Goals as goal

pub returns : goal.returns
returns g c = rows_meet_no_damage g.D.Disk.meaning c.records_are_those_of_every_reading.ensures.places
    c.sound_images_are_lawful.ensures.records c.sound_images_are_lawful.ensures.tables
    c.lawful_tables_are_read.ensures.tables c.lawful_records_are_read.ensures.chains c.versions_go_out.ensures
    c.records_change.ensures.out
