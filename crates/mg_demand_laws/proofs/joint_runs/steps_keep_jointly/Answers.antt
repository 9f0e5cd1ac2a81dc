use Rattle.mg_space.specs.declared.links.FireLinks.{FireLinks}
use Rattle.mg_demand_laws.specs.JointSteps.{batches_keep_jointly, rows_keep_jointly, writes_keep_jointly}
use Rattle.mg_demand_laws.proofs.joint_runs.steps_keep_jointly.Goals as goal

pub returns-clause-writes : goal.returns-clause-writes
returns-clause-writes g c = writes_keep_jointly g.row.D.Denot FireLinks g.D.Disk.meaning c.all_is_borne.ensures.writes
    c.runs_bear.ensures.both

pub returns-clause-batches : goal.returns-clause-batches
returns-clause-batches g c = batches_keep_jointly g.row.D.Denot FireLinks g.D.Disk.meaning c.runs_bear.ensures.both
    c.runs_bear.ensures.exactly

pub returns-clause-rows : goal.returns-clause-rows
returns-clause-rows g c = rows_keep_jointly g.row.D.Denot FireLinks g.D.Disk.meaning c.step_changes_bear.ensures
