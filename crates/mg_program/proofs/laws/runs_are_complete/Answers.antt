use Rattle.mg_program.proofs.CompleteLemmas.{complete}
use Rattle.mg_program.proofs.laws.runs_are_complete.Goals as goal

pub returns : goal.returns
returns g c = complete g.D.Disk.meaning g.S.Source.meaning g.K.Sink.meaning
