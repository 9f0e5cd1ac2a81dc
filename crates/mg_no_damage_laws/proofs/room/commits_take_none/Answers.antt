use Rattle.mg_no_damage_laws.specs.BeginRoom.{commits}
use Rattle.mg_no_damage_laws.specs.EventRoom.{asks, page_writes, steps}
use Rattle.mg_no_damage_laws.proofs.room.commits_take_none.Goals as goal

pub returns-clause-asks : goal.returns-clause-asks
returns-clause-asks g c = asks g.D.Disk.meaning

pub returns-clause-steps : goal.returns-clause-steps
returns-clause-steps g c = steps g.D.Disk.meaning g.met.D.Disk.holds

pub returns-clause-ends : goal.returns-clause-ends
returns-clause-ends g c = commits g.D.Disk.meaning g.met.D.Disk.holds c.histories_go_on.ensures.begins

pub returns-clause-pages : goal.returns-clause-pages
returns-clause-pages g c = page_writes g.D.Disk.meaning g.met.D.Disk.holds
