use Rattle.mg_engine_change_laws.specs.faults.FaultCallLaws.{begins_tell}
use Rattle.mg_engine_change_laws.proofs.faults.begins_tell_faults.Goals as goal

pub returns : goal.returns
returns g c = begins_tell g.D.Disk.meaning
