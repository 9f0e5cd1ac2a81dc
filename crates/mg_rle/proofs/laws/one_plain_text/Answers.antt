use Rattle.mg_rle.proofs.RunLemmas.{plain_texts_same}
use Rattle.mg_rle.proofs.laws.one_plain_text.Goals as goal

pub returns : goal.returns
returns c = plain_texts_same
