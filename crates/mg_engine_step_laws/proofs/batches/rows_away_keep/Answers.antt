use Rattle.std.proofs.Common.{refl}
use Rattle.mg_image.specs.Form.{packed_form}
use Rattle.mg_engine_step_laws.specs.tables_back.OutsLaws.{row_away_keeps}
use Rattle.mg_engine_step_laws.proofs.batches.rows_away_keep.Goals as goal

pub returns : goal.returns
returns g c = row_away_keeps packed_form c.one_reading.ensures.packed_rows (λ page n is. is) refl g.row.D.Denot
    g.row.L.Denot g.D.Disk.meaning
