use Rattle.mg_image.specs.Form.{packed_form}
use Rattle.mg_engine_change_laws.specs.tables.JoinedBatch.{made_table_keeps}
use Rattle.mg_engine_change_laws.proofs.makings.joining.made_tables_keep.Goals as goal

pub returns : goal.returns
returns g c = made_table_keeps packed_form c.one_reading.ensures.packed_rows (λ page n is. is) g.row.D.Denot
    g.row.L.Denot g.D.Disk.meaning c.made_tables_are_kept.ensures.pool
