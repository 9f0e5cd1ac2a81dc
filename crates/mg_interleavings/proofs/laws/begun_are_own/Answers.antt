use Rattle.mg_interleavings.specs.OwnLaws.{interleaved_own}
use Rattle.mg_interleavings.proofs.laws.begun_are_own.Goals as goal

pub returns : goal.returns
returns c = λ o size scripts standing h all. interleaved_own all
