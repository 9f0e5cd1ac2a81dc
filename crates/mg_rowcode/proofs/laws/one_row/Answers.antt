use Rattle.mg_rowcode.proofs.LawLemmas.{same_row}
use Rattle.mg_rowcode.proofs.laws.one_row.Goals as goal

pub returns : goal.returns
returns c = same_row
