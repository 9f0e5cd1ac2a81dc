use Rattle.mg_engine_step_laws.specs.tables_back.RowsTakenLaws.{rows_are_taken}
use Rattle.mg_engine_step_laws.proofs.batches.rows_are_taken.Goals as goal

pub returns : goal.returns
returns g c = rows_are_taken c.records_are_those_of_every_reading.ensures.speakers g.row.D.Denot g.row.L.Denot
