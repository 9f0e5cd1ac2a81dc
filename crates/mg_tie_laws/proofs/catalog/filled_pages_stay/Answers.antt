use Rattle.mg_image.specs.Form.{packed_form}
use Rattle.mg_tie_laws.specs.FilledPages.{filled_pages_stay}
use Rattle.mg_tie_laws.proofs.catalog.filled_pages_stay.Goals as goal

pub returns : goal.returns
returns g c = filled_pages_stay packed_form c.one_reading.ensures.packed_rows (λ page n is. is)
    g.row.D.Denot g.row.L.Denot g.D.Disk.meaning
