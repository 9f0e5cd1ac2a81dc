use Rattle.mg_engine_change_laws.specs.tables_back.EngineOverLaws.{engines_go_over, others_walk_over}
use Rattle.mg_engine_change_laws.proofs.over_tables.engines.engines_go_over.Goals as goal

pub returns-clause-stands : goal.returns-clause-stands
returns-clause-stands g c = engines_go_over g.D.Disk.meaning c.histories_go_on.ensures.begins
    c.unasking_lasts.ensures c.lists_go_on.ensures.stay c.keys_are_taken.ensures.since
    c.changes_are_taken_back.ensures.begin c.pages_show_what_is_taken_back.ensures.first c.what_was_is_given.ensures
    c.keys_are_taken.ensures.keys c.rows_are_given.ensures.apart c.rows_are_given.ensures.left
    c.catalogs_grow.ensures.once c.catalogs_grow.ensures.together c.cores_take_all.ensures c.keys_keep_lists.ensures c.cores_take_rows.ensures
    c.tables_follow.ensures c.engines_take_tables.ensures c.tables_go_back.ensures.taken
    c.changed_tables_are_there.ensures.gone c.sound_images_stand_one_way.ensures

pub returns-clause-walks : goal.returns-clause-walks
returns-clause-walks g c = others_walk_over g.D.Disk.meaning c.histories_go_on.ensures.begins
    c.unasking_lasts.ensures c.lists_go_on.ensures.stay c.keys_are_taken.ensures.since
    c.changes_are_taken_back.ensures.begin c.pages_show_what_is_taken_back.ensures.first c.what_was_is_given.ensures
    c.keys_are_taken.ensures.keys c.rows_are_given.ensures.apart c.rows_are_given.ensures.left
    c.catalogs_grow.ensures.once c.catalogs_grow.ensures.together c.cores_take_all.ensures c.keys_keep_lists.ensures c.cores_take_rows.ensures
    c.tables_follow.ensures c.engines_take_tables.ensures c.tables_go_back.ensures.taken
    c.changed_tables_are_there.ensures.gone
    c.sound_images_stand_one_way.ensures c.keys_keep_pages.ensures c.others_walk_on.ensures.back
    c.tables_walks_go_on.ensures c.catalogs_grow.ensures.seen
