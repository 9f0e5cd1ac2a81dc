use Rattle.mg_model.specs.OpeningLaws.{opening_may_begin, run_is_legal}
use Rattle.mg_model.specs.NewOpeningLaws.{new_is_opening}
use Rattle.mg_model.proofs.laws.histories_go_on.Goals as goal

pub returns-clause-begins : goal.returns-clause-begins
returns-clause-begins c = opening_may_begin

pub returns-clause-opening : goal.returns-clause-opening
returns-clause-opening c = new_is_opening

pub returns-clause-legal : goal.returns-clause-legal
returns-clause-legal c = run_is_legal
