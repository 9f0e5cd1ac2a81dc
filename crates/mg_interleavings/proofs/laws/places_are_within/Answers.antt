use Rattle.mg_interleavings.specs.AnswerLaws.{interleaved_keeps}
use Rattle.mg_interleavings.proofs.laws.places_are_within.Goals as goal

pub returns : goal.returns
returns c = λ o size scripts standing h all. (interleaved_keeps all).within
