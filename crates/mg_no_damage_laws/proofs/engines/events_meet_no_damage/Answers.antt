use Rattle.mg_no_damage_laws.specs.CountLaws.{looks, points, rollbacks, waits}
use Rattle.mg_no_damage_laws.proofs.engines.events_meet_no_damage.Goals as goal

pub returns-clause-looks : goal.returns-clause-looks
returns-clause-looks g c = looks g.D.Disk.meaning

pub returns-clause-waits : goal.returns-clause-waits
returns-clause-waits g c = waits g.D.Disk.meaning

pub returns-clause-points : goal.returns-clause-points
returns-clause-points g c = points g.D.Disk.meaning

pub returns-clause-rollbacks : goal.returns-clause-rollbacks
returns-clause-rollbacks g c = rollbacks g.D.Disk.meaning
