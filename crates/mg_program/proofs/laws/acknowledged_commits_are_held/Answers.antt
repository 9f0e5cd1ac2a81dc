use Rattle.mg_program.proofs.AcknowledgedLemmas.{acknowledged}
use Rattle.mg_program.proofs.laws.acknowledged_commits_are_held.Goals as goal

pub returns : goal.returns
returns g c = acknowledged g.D.Disk.meaning g.S.Source.meaning g.K.Sink.meaning c.lines_are_held.ensures
