use Rattle.mg_chain.proofs.ListLemmas.{makes_lists, pushes_lists}
use Rattle.mg_chain.proofs.laws.versions_are_added.Goals as goal

pub returns-clause-made : goal.returns-clause-made
returns-clause-made c = makes_lists

pub returns-clause-pushed : goal.returns-clause-pushed
returns-clause-pushed c = pushes_lists
