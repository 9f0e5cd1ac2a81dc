use Rattle.mg_engine_change_laws.specs.faults.FaultCallLaws.{events_tell, points_tell, rollbacks_tell, waits_tell}
use Rattle.mg_engine_change_laws.proofs.faults.events_tell_faults.Goals as goal

pub returns-clause-waits : goal.returns-clause-waits
returns-clause-waits g c = waits_tell g.D.Disk.meaning

pub returns-clause-looks : goal.returns-clause-looks
returns-clause-looks g c = events_tell g.D.Disk.meaning

pub returns-clause-points : goal.returns-clause-points
returns-clause-points g c = points_tell g.D.Disk.meaning

pub returns-clause-rollbacks : goal.returns-clause-rollbacks
returns-clause-rollbacks g c = rollbacks_tell g.D.Disk.meaning
