use Rattle.mg_engine_change_laws.specs.backs.BackLaws.{engines_go_back_to, others_walk_on_back}
use Rattle.mg_engine_change_laws.proofs.takings.takings.engines_go_back_to.Goals as goal

pub returns-clause-stands : goal.returns-clause-stands
returns-clause-stands g c = engines_go_back_to g.D.Disk.meaning c.histories_go_on.ensures.begins c.unasking_lasts.ensures
    c.lists_go_on.ensures.stay c.keys_are_taken.ensures.since c.changes_are_taken_back.ensures.begin
    c.pages_show_what_is_taken_back.ensures.first c.undo_lists_give_keys.ensures c.cores_take_all.ensures
    c.keys_keep_lists.ensures c.engines_take_back.ensures.back

pub returns-clause-walks : goal.returns-clause-walks
returns-clause-walks g c = others_walk_on_back g.D.Disk.meaning c.histories_go_on.ensures.begins
    c.unasking_lasts.ensures c.lists_go_on.ensures.stay c.keys_are_taken.ensures.since
    c.changes_are_taken_back.ensures.begin c.pages_show_what_is_taken_back.ensures.first
    c.undo_lists_give_keys.ensures c.cores_take_all.ensures c.keys_keep_lists.ensures c.engines_take_back.ensures.back
    c.sound_images_stand_one_way.ensures c.keys_keep_pages.ensures c.others_walk_on.ensures.back
