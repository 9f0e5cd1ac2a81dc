use Rattle.mg_space.specs.declared.links.FireLinks.{FireLinks}
use Rattle.mg_demand_laws.specs.JointParts.{joint_part_keeps, joint_parts_are_one, one_of_trees_pays_jointly, part_then_batch_pays, table_batch_keeps, table_part_pays, tree_batch_keeps, tree_part_pays}
use Rattle.mg_demand_laws.specs.JointRuns.{table_steps_are_joint, tree_steps_are_joint}
use Rattle.mg_demand_laws.proofs.joint_runs.joint_parts_pay.Goals as goal

pub returns-clause-table : goal.returns-clause-table
returns-clause-table g c = table_part_pays g.row.D.Denot FireLinks

pub returns-clause-tree : goal.returns-clause-tree
returns-clause-tree g c = tree_part_pays

pub returns-clause-one : goal.returns-clause-one
returns-clause-one g c = one_of_trees_pays_jointly

pub returns-clause-both : goal.returns-clause-both
returns-clause-both g c = joint_parts_are_one

pub returns-clause-whole : goal.returns-clause-whole
returns-clause-whole g c = joint_part_keeps

pub returns-clause-then_batch : goal.returns-clause-then_batch
returns-clause-then_batch g c = part_then_batch_pays

pub returns-clause-tables : goal.returns-clause-tables
returns-clause-tables g c = table_batch_keeps

pub returns-clause-trees : goal.returns-clause-trees
returns-clause-trees g c = tree_batch_keeps

pub returns-clause-table_steps : goal.returns-clause-table_steps
returns-clause-table_steps g c = table_steps_are_joint g.row.D.Denot FireLinks

pub returns-clause-tree_steps : goal.returns-clause-tree_steps
returns-clause-tree_steps g c = tree_steps_are_joint g.row.D.Denot FireLinks
