use Rattle.mg_image.specs.Form.{packed_form}
use Rattle.mg_engine_step_laws.specs.writes.SpotLaws.{spots_stay}
use Rattle.mg_engine_step_laws.proofs.writes.spots_stay.Goals as goal

pub returns : goal.returns
returns g c = spots_stay packed_form g.row.D.Denot g.row.L.Denot g.D.Disk.meaning
    c.one_reading.ensures.packed_rows (λ page n is. is) c.histories_go_on.ensures.begins
    c.batches_last.ensures.still
