use Rattle.mg_node_writing.proofs.PromiseLemmas.{behind_first}
use Rattle.mg_node_writing.proofs.laws.first_stays.Goals as goal

pub returns : goal.returns
returns c = λ old new e is also inner some i. behind_first old new e is also inner some i
