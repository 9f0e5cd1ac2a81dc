use Rattle.mg_demand_laws.specs.TreeRuns.{batches_keep_trees, tree_runs_bear as bear, writes_keep_trees}
use Rattle.mg_demand_laws.proofs.trees.tree_runs_bear.Goals as goal

pub returns-clause-writes : goal.returns-clause-writes
returns-clause-writes c = writes_keep_trees c.all_is_borne.ensures.writes

pub returns-clause-batches : goal.returns-clause-batches
returns-clause-batches c = batches_keep_trees c.runs_bear.ensures.exactly

pub returns-clause-runs : goal.returns-clause-runs
returns-clause-runs c = bear c.all_is_borne.ensures.writes c.runs_bear.ensures.exactly
