use Rattle.mg_runs.specs.FaultLaws.{closings_fail}
use Rattle.mg_runs.proofs.laws.closings_fail.Goals as goal

pub returns : goal.returns
returns g c = λ places. closings_fail g.D.Disk.meaning places
