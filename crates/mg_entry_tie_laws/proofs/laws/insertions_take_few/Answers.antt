use Rattle.mg_entry_tie_laws.specs.FewLaws as laws
use Rattle.mg_entry_tie_laws.proofs.laws.insertions_take_few.Goals as goal

pub returns-clause-few : goal.returns-clause-few
returns-clause-few c = laws.insertions_take_few

pub returns-clause-eighteen : goal.returns-clause-eighteen
returns-clause-eighteen c = laws.insertions_take_eighteen
