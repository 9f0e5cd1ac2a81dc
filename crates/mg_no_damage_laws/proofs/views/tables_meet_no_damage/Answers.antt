use Rattle.mg_no_damage_laws.proofs.ViewLemmas.{tables_meet_none}
use Rattle.mg_no_damage_laws.proofs.views.tables_meet_no_damage.Goals as goal

pub returns : goal.returns
returns g c = tables_meet_none g.D.Disk.meaning c.sound_images_are_lawful.ensures.records
    c.sound_images_are_lawful.ensures.tables c.lawful_tables_are_read.ensures.tables c.histories_go_on.ensures.begins
    c.found_tables_stand.ensures c.seen_rows_are_lawful.ensures
