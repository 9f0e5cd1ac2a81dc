use Rattle.mg_interleavings.specs.HistoryLaws.{interleaved_legal}
use Rattle.mg_interleavings.proofs.laws.histories_are_legal.Goals as goal

pub returns : goal.returns
returns c = λ o size scripts standing h all. interleaved_legal all
