use Rattle.mg_chain.proofs.Views.{found_is_shown, sees_its_view}
use Rattle.mg_chain.proofs.laws.a_transaction_sees_its_view.Goals as goal

pub returns-clause-view : goal.returns-clause-view
returns-clause-view c = sees_its_view c.versions_show.ensures.views

pub returns-clause-row : goal.returns-clause-row
returns-clause-row c = found_is_shown
