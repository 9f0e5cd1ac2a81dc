use Rattle.mg_runs.specs.FaultLaws.{openings_fail}
use Rattle.mg_runs.proofs.laws.openings_fail.Goals as goal

pub returns : goal.returns
returns g c = openings_fail g.D.Disk.meaning
