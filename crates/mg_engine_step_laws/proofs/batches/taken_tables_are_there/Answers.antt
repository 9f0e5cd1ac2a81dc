use Rattle.std.proofs.Common.{refl}
use Rattle.mg_image.specs.Form.{packed_form}
use Rattle.mg_engine_step_laws.specs.tables_back.OutsThereLaws.{outs_there}
use Rattle.mg_engine_step_laws.proofs.batches.taken_tables_are_there.Goals as goal

pub returns : goal.returns
returns g c = outs_there packed_form c.one_reading.ensures.packed_rows (λ page n is. is) refl g.row.D.Denot
    g.row.L.Denot
