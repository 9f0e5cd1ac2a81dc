use Rattle.mg_engine_meaning_laws.specs.RollbackEnds.{rollbacks_give}
use Rattle.mg_engine_meaning_laws.proofs.calls.rollbacks_go.Goals as goal

pub returns : goal.returns
returns g c = λ places old new t result core apart gives. rollbacks_give g.D.Disk.meaning places
    c.entries_go_on.ensures.idle c.standings_go_on.ensures c.crashes_hold.ensures.quiet
    c.one_reading.ensures.packed_rows c.sound_images_stand_one_way.ensures c.histories_go_on.ensures.begins c.rollbacks_go_on.ensures
    c.others_take_alike.ensures c.walks_go_alike.ensures.alike old new t result core apart gives
