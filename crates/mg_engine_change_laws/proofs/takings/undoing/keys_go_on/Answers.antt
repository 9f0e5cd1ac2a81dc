use Rattle.mg_engine_change_laws.specs.keys.TakingStepLaws.{keys_go_on}
use Rattle.mg_engine_change_laws.proofs.takings.undoing.keys_go_on.Goals as goal

pub returns : goal.returns
returns g c = keys_go_on g.row.D.Denot g.row.L.Denot g.D.Disk.meaning c.batches_last.ensures.reads
    c.sound_images_stand_one_way.ensures c.entries_stay_midway.ensures c.changes_are_taken_back.ensures.out
    c.changes_are_taken_back.ensures.back c.pages_show_what_is_taken_back.ensures.onward
