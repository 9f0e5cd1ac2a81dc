use Rattle.mg_engine_step_laws.specs.tables_back.EngineTablesLaws.{engines_take_tables}
use Rattle.mg_engine_step_laws.proofs.engines.engines_take_tables.Goals as goal

pub returns : goal.returns
returns g c = engines_take_tables g.row.D.Denot g.row.L.Denot g.D.Disk.meaning c.histories_go_on.ensures.begins
    c.standings_go_on.ensures c.changes_are_taken_back.ensures.end c.tables_go_back.ensures.back
