use Rattle.mg_runs.specs.AcknowledgedLaws.{lines_held}
use Rattle.mg_runs.proofs.laws.lines_are_held.Goals as goal

pub returns : goal.returns
returns g c = lines_held g.D.Disk.meaning g.K.Sink.meaning
