use Rattle.std.proofs.Common.{refl}
use Rattle.mg_image.specs.Form.{packed_form}
use Rattle.mg_engine_step_laws.specs.backs.DeadLaws.{deads_go}
use Rattle.mg_engine_step_laws.proofs.writes.deads_go.Goals as goal

pub returns : goal.returns
returns g c = deads_go packed_form g.row.D.Denot g.row.L.Denot g.D.Disk.meaning
    c.one_reading.ensures.packed_rows (λ page n is. is) refl c.histories_go_on.ensures.begins
    c.batches_last.ensures.still
