use Rattle.mg_chain.proofs.ListLemmas.{moves_lists, overwrites_lists, takes_out_lists}
use Rattle.mg_chain.proofs.laws.newest_versions_are_changed.Goals as goal

pub returns-clause-overwritten : goal.returns-clause-overwritten
returns-clause-overwritten c = overwrites_lists

pub returns-clause-moved : goal.returns-clause-moved
returns-clause-moved c = moves_lists

pub returns-clause-taken_out : goal.returns-clause-taken_out
returns-clause-taken_out c = takes_out_lists
