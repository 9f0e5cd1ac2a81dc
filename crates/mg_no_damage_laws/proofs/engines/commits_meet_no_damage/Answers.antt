use Rattle.mg_no_damage_laws.specs.CountLaws.{asks, commits, page_writes, steps}
use Rattle.mg_no_damage_laws.proofs.engines.commits_meet_no_damage.Goals as goal

pub returns-clause-asks : goal.returns-clause-asks
returns-clause-asks g c = asks g.D.Disk.meaning

pub returns-clause-steps : goal.returns-clause-steps
returns-clause-steps g c = steps g.D.Disk.meaning

pub returns-clause-ends : goal.returns-clause-ends
returns-clause-ends g c = commits g.D.Disk.meaning

pub returns-clause-pages : goal.returns-clause-pages
returns-clause-pages g c = page_writes g.D.Disk.meaning
