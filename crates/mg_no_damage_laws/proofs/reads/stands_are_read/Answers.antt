use Rattle.mg_no_damage_laws.proofs.StandingLemmas.{lasts_there, stands_reached, stands_there, stands_walked}
use Rattle.mg_no_damage_laws.proofs.reads.stands_are_read.Goals as goal

pub returns-clause-there : goal.returns-clause-there
returns-clause-there g c = stands_there g.D.Disk.meaning c.walks_of_layouts_meet_no_damage.ensures

pub returns-clause-walked : goal.returns-clause-walked
returns-clause-walked g c = stands_walked g.D.Disk.meaning c.walks_of_layouts_meet_no_damage.ensures

pub returns-clause-reached : goal.returns-clause-reached
returns-clause-reached g c = stands_reached g.D.Disk.meaning c.walks_of_layouts_meet_no_damage.ensures c.tables_of_layouts_are_walked.ensures

pub returns-clause-lasts : goal.returns-clause-lasts
returns-clause-lasts g c = lasts_there g.D.Disk.meaning c.walks_of_layouts_meet_no_damage.ensures
