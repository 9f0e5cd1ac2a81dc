use Rattle.mg_image.specs.Form.{packed_form}
use Rattle.mg_tie_laws.specs.FirstTies.{first_row_keeps_for}
use Rattle.mg_tie_laws.proofs.chain.first_versions_keep_for.Goals as goal

pub returns : goal.returns
returns g c = first_row_keeps_for packed_form c.one_reading.ensures.packed_rows (λ page n is. is) g.row.D.Denot
    g.row.L.Denot g.D.Disk.meaning
