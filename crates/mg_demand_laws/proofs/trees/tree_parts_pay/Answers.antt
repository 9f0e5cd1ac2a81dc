use Rattle.mg_demand_laws.specs.CallRows.{calls_pay}
use Rattle.mg_demand_laws.specs.CallTies.{beside_trees_pays, one_of_trees_pays, tree_parts_are_one}
use Rattle.mg_demand_laws.proofs.trees.tree_parts_pay.Goals as goal

pub returns-clause-calls : goal.returns-clause-calls
returns-clause-calls c = calls_pay

pub returns-clause-one : goal.returns-clause-one
returns-clause-one c = one_of_trees_pays

pub returns-clause-beside : goal.returns-clause-beside
returns-clause-beside c = beside_trees_pays

pub returns-clause-both : goal.returns-clause-both
returns-clause-both c = tree_parts_are_one
