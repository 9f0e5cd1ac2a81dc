use Rattle.mg_chain.proofs.ListLemmas.{frees_slot, puts_spelled}
use Rattle.mg_chain.proofs.laws.cells_are_changed.Goals as goal

pub returns-clause-put : goal.returns-clause-put
returns-clause-put c = puts_spelled

pub returns-clause-freed : goal.returns-clause-freed
returns-clause-freed c = frees_slot
