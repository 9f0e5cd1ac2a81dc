use Rattle.mg_space.specs.declared.links.FireLinks.{FireLinks}
use Rattle.mg_demand_laws.specs.RunLaws.{runs_stay_linked}
use Rattle.mg_demand_laws.proofs.table_runs.runs_stay_linked.Goals as goal

pub returns : goal.returns
returns g c = runs_stay_linked g.row.D.Denot FireLinks g.D.Disk.meaning c.writes_keep_tables.ensures c.tables_bear.ensures.news
    c.rows_bear.ensures c.demands_are_borne.ensures.overlays
