use Rattle.mg_image.specs.Form.{packed_form}
use Rattle.mg_tie_laws.specs.SpotTies.{spot_row_keeps}
use Rattle.mg_tie_laws.proofs.heap.given_pages_keep.Goals as goal

pub returns : goal.returns
returns g c = spot_row_keeps packed_form c.one_reading.ensures.packed_rows (λ page n is. is) g.row.D.Denot
    g.row.L.Denot g.D.Disk.meaning
