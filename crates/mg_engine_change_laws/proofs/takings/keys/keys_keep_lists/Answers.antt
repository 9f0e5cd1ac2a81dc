use Rattle.mg_engine_change_laws.specs.keys.BackListsLaws.{keys_keep_lists}
use Rattle.mg_engine_change_laws.proofs.takings.keys.keys_keep_lists.Goals as goal

pub returns : goal.returns
returns g c = keys_keep_lists g.row.D.Denot g.row.L.Denot g.D.Disk.meaning c.one_reading.ensures.packed_rows
    c.writes_keep_tips.ensures.moves c.writes_keep_tips.ensures.replacements c.writes_keep_tips.ensures.out
    c.sound_images_stand_one_way.ensures c.entries_stay_midway.ensures c.keys_go_on.ensures c.tips_stay.ensures.on c.writes_keep_plain.ensures
    c.changes_are_taken_back.ensures.out c.changes_are_taken_back.ensures.back c.batches_last.ensures.reads
