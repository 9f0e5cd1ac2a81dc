use Rattle.mg_rows.specs.FoundLaws.{found_sorted, found_none, found_bare, found_answered}
use Rattle.mg_rows.proofs.laws.order_of_visits_is_nothing.Goals as goal

pub returns-clause-any : goal.returns-clause-any
returns-clause-any c = found_sorted

pub returns-clause-fault : goal.returns-clause-fault
returns-clause-fault c = found_none

pub returns-clause-bare : goal.returns-clause-bare
returns-clause-bare c = found_bare

pub returns-clause-answered : goal.returns-clause-answered
returns-clause-answered c = found_answered
