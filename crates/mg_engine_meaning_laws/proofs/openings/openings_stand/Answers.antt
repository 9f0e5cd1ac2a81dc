use Rattle.mg_engine_meaning_laws.specs.WholeLaws.{openings_stand_by}
use Rattle.mg_engine_meaning_laws.proofs.openings.openings_stand.Goals as goal

pub returns : goal.returns
returns g c = openings_stand_by g.row.D.Denot g.D.Disk.meaning g.met.D.Disk.counts_now g.met.D.Disk.counted
    c.walks_of_layouts_meet_no_damage.ensures c.new_databases_are_readable.ensures c.standings_begin.ensures c.starts_last.ensures.pool c.loaded_lists_say_what_images_say.ensures
    c.histories_go_on.ensures.begins c.one_reading.ensures.packed_rows c.chosen_tables_stand.ensures
    c.new_databases_begin.ensures
