use Rattle.mg_demand_laws.specs.Leaving.{tables_stay, trees_stay, trees_stay_without}
use Rattle.mg_demand_laws.proofs.joint_runs.changes_leave_each_other.Goals as goal

pub returns-clause-trees : goal.returns-clause-trees
returns-clause-trees c = trees_stay

pub returns-clause-dropped : goal.returns-clause-dropped
returns-clause-dropped c = trees_stay_without

pub returns-clause-tables : goal.returns-clause-tables
returns-clause-tables c = tables_stay
