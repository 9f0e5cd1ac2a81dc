use Rattle.std.proofs.Common.{refl}
use Rattle.mg_engine_step_laws.specs.tables_back.TablesBackLaws.{rows_go_on}
use Rattle.mg_engine_step_laws.proofs.shown.rows_go_on.Goals as goal

pub returns : goal.returns
returns g c = rows_go_on g.row.D.Denot g.row.L.Denot g.D.Disk.meaning c.one_reading.ensures.packed_rows
    (λ page n is. is) refl c.batches_last.ensures.still c.rows_away_keep.ensures c.rows_are_taken.ensures
