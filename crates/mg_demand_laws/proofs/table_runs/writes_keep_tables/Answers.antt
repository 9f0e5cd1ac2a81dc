use Rattle.mg_space.specs.declared.links.FireLinks.{FireLinks}
use Rattle.mg_demand_laws.specs.RunLaws.{writes_keep_tables}
use Rattle.mg_demand_laws.proofs.table_runs.writes_keep_tables.Goals as goal

pub returns : goal.returns
returns g c = writes_keep_tables g.row.D.Denot FireLinks g.D.Disk.meaning c.all_is_borne.ensures.writes
    c.runs_bear.ensures.both
