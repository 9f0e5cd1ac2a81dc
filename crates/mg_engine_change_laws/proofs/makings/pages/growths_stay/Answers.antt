use Rattle.mg_engine_change_laws.specs.tables.GrowthLaws.{growths_stay}
use Rattle.mg_engine_change_laws.proofs.makings.pages.growths_stay.Goals as goal

pub returns : goal.returns
returns g c = growths_stay c.one_reading.ensures.packed_rows c.sound_images_stand_one_way.ensures c.histories_go_on.ensures.begins c.tips_stay.ensures.on
    c.tips_stay.ensures.behind c.lists_go_on.ensures.stay g.D.Disk.meaning g.met.D.Disk.holds
    c.batches_last.ensures.still
