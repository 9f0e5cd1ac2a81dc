use Rattle.mg_runs.specs.FaultLaws.{lines_fail}
use Rattle.mg_runs.proofs.laws.lines_fail.Goals as goal

pub returns : goal.returns
returns g c = λ places. lines_fail g.D.Disk.meaning places
