use Rattle.mg_demand_laws.specs.TreeTies.{leaf_pays, name_pays, root_pays, split_pays}
use Rattle.mg_demand_laws.proofs.tree_steps.trees_pay.Goals as goal

pub returns-clause-split : goal.returns-clause-split
returns-clause-split c = split_pays

pub returns-clause-named : goal.returns-clause-named
returns-clause-named c = name_pays

pub returns-clause-root : goal.returns-clause-root
returns-clause-root c = root_pays

pub returns-clause-leaf : goal.returns-clause-leaf
returns-clause-leaf c = leaf_pays
