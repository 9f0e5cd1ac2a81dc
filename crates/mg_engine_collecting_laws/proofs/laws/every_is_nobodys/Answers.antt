use Rattle.mg_engine_collecting_laws.specs.EverySo.{every_is_nobodys}
use Rattle.mg_engine_collecting_laws.proofs.laws.every_is_nobodys.Goals as goal

pub returns : goal.returns
returns g c = every_is_nobodys c.one_reading.ensures.packed_rows c.sound_images_stand_one_way.ensures
    c.tips_stay.ensures.on c.lists_go_on.ensures.stay c.writes_keep_plain.ensures c.garbage_may_go.ensures.covered
    c.garbage_may_go.ensures.erased c.histories_go_on.ensures.begins
    c.records_are_those_of_every_reading.ensures.rows g.row.D.Denot g.row.P.Denot g.D.Disk.meaning
    c.batches_last.ensures.still c.batches_last.ensures.reads g.met.D.Disk.holds c.page_writes_go_on.ensures.failed
