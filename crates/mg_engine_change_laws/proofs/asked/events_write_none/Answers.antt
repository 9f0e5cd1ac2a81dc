use Rattle.mg_engine_change_laws.specs.faults.AskedLaws.{looks_ask, points_ask, rollbacks_ask, waits_ask}
use Rattle.mg_engine_change_laws.proofs.asked.events_write_none.Goals as goal

pub returns-clause-looks : goal.returns-clause-looks
returns-clause-looks g c = looks_ask g.D.Disk.meaning

pub returns-clause-waits : goal.returns-clause-waits
returns-clause-waits g c = waits_ask g.D.Disk.meaning

pub returns-clause-points : goal.returns-clause-points
returns-clause-points g c = points_ask g.D.Disk.meaning

pub returns-clause-rollbacks : goal.returns-clause-rollbacks
returns-clause-rollbacks g c = rollbacks_ask g.D.Disk.meaning
