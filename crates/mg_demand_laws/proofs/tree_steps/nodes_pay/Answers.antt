use Rattle.mg_demand_laws.specs.NodeLaws.{new_node_pays, node_pays}
use Rattle.mg_demand_laws.proofs.tree_steps.nodes_pay.Goals as goal

pub returns-clause-made : goal.returns-clause-made
returns-clause-made c = new_node_pays

pub returns-clause-changed : goal.returns-clause-changed
returns-clause-changed c = node_pays
