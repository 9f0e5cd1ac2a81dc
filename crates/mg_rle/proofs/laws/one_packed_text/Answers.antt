use Rattle.mg_rle.proofs.WritingLemmas.{packed_texts_same}
use Rattle.mg_rle.proofs.WriterLemmas.{some_packed_text}
use Rattle.mg_rle.proofs.laws.one_packed_text.Goals as goal

pub returns-clause-some : goal.returns-clause-some
returns-clause-some c = some_packed_text

pub returns-clause-one : goal.returns-clause-one
returns-clause-one c = packed_texts_same
