use Rattle.mg_no_damage_laws.specs.EventRoom.{founds, looks, points, rollbacks}
use Rattle.mg_no_damage_laws.proofs.room.events_take_none.Goals as goal

pub returns-clause-looks : goal.returns-clause-looks
returns-clause-looks g c = looks g.D.Disk.meaning

pub returns-clause-founds : goal.returns-clause-founds
returns-clause-founds g c = founds g.D.Disk.meaning

pub returns-clause-points : goal.returns-clause-points
returns-clause-points g c = points g.D.Disk.meaning

pub returns-clause-rollbacks : goal.returns-clause-rollbacks
returns-clause-rollbacks g c = rollbacks g.D.Disk.meaning
