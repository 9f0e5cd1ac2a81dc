use Rattle.mg_node_writing.proofs.PromiseLemmas.{taken_after}
use Rattle.mg_node_writing.proofs.laws.taken_after_split.Goals as goal

pub returns : goal.returns
returns c = λ old left right at e s takes. taken_after old left right at e s takes
