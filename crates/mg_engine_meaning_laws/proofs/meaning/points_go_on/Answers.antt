use Rattle.mg_engine_meaning_laws.specs.EventLaws.{sets_point, sets_savepoint, tells_found}
use Rattle.mg_engine_meaning_laws.proofs.meaning.points_go_on.Goals as goal

pub returns-clause-marks : goal.returns-clause-marks
returns-clause-marks g c = λ places old new t result core sets. sets_point g.D.Disk.meaning places
    c.entries_go_on.ensures.idle c.standings_go_on.ensures c.crashes_hold.ensures.quiet
    c.the_list_follows_the_machine.ensures.kept old new t core result sets

pub returns-clause-savepoints : goal.returns-clause-savepoints
returns-clause-savepoints g c = λ places old new t name result core sets. sets_savepoint g.D.Disk.meaning places
    c.entries_go_on.ensures.idle c.standings_go_on.ensures c.crashes_hold.ensures.quiet
    c.the_list_follows_the_machine.ensures.kept old new t name core result sets

pub returns-clause-found : goal.returns-clause-found
returns-clause-found g c = λ places old new t name filter rows result wait goes. tells_found g.D.Disk.meaning
    places c.entries_go_on.ensures.idle c.standings_go_on.ensures c.crashes_hold.ensures.quiet old new t name
    filter rows result wait goes
