use Rattle.mg_engine_change_laws.specs.tables_back.CoreRowsLaws.{cores_take_rows}
use Rattle.mg_engine_change_laws.proofs.over_tables.ways.cores_take_rows.Goals as goal

pub returns : goal.returns
returns g c = cores_take_rows g.D.Disk.meaning g.met.D.Disk.holds c.rows_go_on.ensures
