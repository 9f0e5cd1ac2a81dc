use Rattle.mg_engine_change_laws.specs.keys.BackPagesLaws.{keys_keep_pages}
use Rattle.mg_engine_change_laws.proofs.takings.keys.keys_keep_pages.Goals as goal

pub returns : goal.returns
returns g c = keys_keep_pages g.row.D.Denot g.row.L.Denot g.D.Disk.meaning c.one_reading.ensures.packed_rows
    c.tables_keep_pages.ensures.moves c.tables_keep_pages.ensures.replacements c.tables_keep_pages.ensures.out
    c.sound_images_stand_one_way.ensures c.entries_stay_midway.ensures c.keys_go_on.ensures c.tables_keep_pages.ensures.on
    c.changes_are_taken_back.ensures.out c.changes_are_taken_back.ensures.back c.batches_last.ensures.reads
