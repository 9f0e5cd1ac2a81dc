use Rattle.mg_load_rows.proofs.RowLemmas.{key_law}
use Rattle.mg_load_rows.proofs.laws.keys_differ.Goals as goal

pub returns : goal.returns
returns c = key_law
