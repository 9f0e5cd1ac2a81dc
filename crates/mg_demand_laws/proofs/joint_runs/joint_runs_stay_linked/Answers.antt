use Rattle.mg_space.specs.declared.links.FireLinks.{FireLinks}
use Rattle.mg_demand_laws.specs.JointRuns.{joint_runs_stay_linked as stay_linked}
use Rattle.mg_demand_laws.proofs.joint_runs.joint_runs_stay_linked.Goals as goal

pub returns : goal.returns
returns g c = stay_linked g.row.D.Denot FireLinks g.D.Disk.meaning c.steps_keep_jointly.ensures.writes
    c.steps_keep_jointly.ensures.batches c.steps_keep_jointly.ensures.rows c.demands_are_borne.ensures.overlays
