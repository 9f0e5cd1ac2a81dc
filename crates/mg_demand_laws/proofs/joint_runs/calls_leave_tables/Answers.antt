use Rattle.mg_demand_laws.specs.Inserting.{insertions_leave_tables, removals_leave_tables}
use Rattle.mg_demand_laws.proofs.joint_runs.calls_leave_tables.Goals as goal

pub returns-clause-put : goal.returns-clause-put
returns-clause-put c = insertions_leave_tables

pub returns-clause-out : goal.returns-clause-out
returns-clause-out c = removals_leave_tables
