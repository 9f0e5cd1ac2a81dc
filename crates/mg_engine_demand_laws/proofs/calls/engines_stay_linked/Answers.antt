use Rattle.mg_engine_demand_laws.specs.EngineLaws.{engines_stay_linked}
use Rattle.mg_engine_demand_laws.proofs.calls.engines_stay_linked.Goals as goal

pub returns : goal.returns
returns g c = engines_stay_linked g.row.D.Denot g.D.Disk.meaning c.calls_go.ensures.rows c.tables_are_made.ensures
    c.runs_stay_linked.ensures
