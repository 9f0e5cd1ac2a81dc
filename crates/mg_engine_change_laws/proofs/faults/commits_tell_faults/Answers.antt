use Rattle.mg_engine_change_laws.specs.faults.FaultCallLaws.{commits_tell}
use Rattle.mg_engine_change_laws.proofs.faults.commits_tell_faults.Goals as goal

pub returns : goal.returns
returns g c = commits_tell g.D.Disk.meaning
