use Rattle.mg_engine_meaning_laws.specs.FailEnds.{commits_give}
use Rattle.mg_engine_meaning_laws.proofs.calls.commits_go.Goals as goal

pub returns : goal.returns
returns g c = λ places old new t result core apart written gives. commits_give g.D.Disk.meaning places
    g.met.D.Disk.holds c.entries_go_on.ensures.idle c.standings_go_on.ensures c.crashes_hold.ensures.quiet
    c.sound_images_stand_one_way.ensures c.batches_last.ensures.pool c.histories_go_on.ensures.begins
    c.commits_go_on.ensures c.commits_fail.ensures c.tables_are_found.ensures.commit c.others_take_alike.ensures
    c.walks_go_alike.ensures.over old new t core apart written result gives
