use Rattle.mg_undo.proofs.MachineLemmas.{notes_deeds, goes_back}
use Rattle.mg_undo.proofs.laws.the_list_follows_the_machine.Goals as goal

pub returns-clause-kept : goal.returns-clause-kept
returns-clause-kept c = notes_deeds

pub returns-clause-back : goal.returns-clause-back
returns-clause-back c = goes_back
