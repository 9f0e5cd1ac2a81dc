use Rattle.mg_engine_change_laws.specs.faults.FaultCallLaws.{makings_tell, writes_tell}
use Rattle.mg_engine_change_laws.proofs.faults.changes_tell_faults.Goals as goal

pub returns-clause-writes : goal.returns-clause-writes
returns-clause-writes g c = writes_tell g.D.Disk.meaning

pub returns-clause-makings : goal.returns-clause-makings
returns-clause-makings g c = makings_tell g.D.Disk.meaning
