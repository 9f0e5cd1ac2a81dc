use Rattle.mg_engine_demand_laws.specs.LayingLaws.{lays_go}
use Rattle.mg_engine_demand_laws.proofs.runs.rows_go.Goals as goal

pub returns : goal.returns
returns g c = lays_go g.row.D.Denot g.D.Disk.meaning
