use Rattle.std.proofs.Common.{refl}
use Rattle.mg_image.specs.Form.{packed_form}
use Rattle.mg_tie_laws.specs.BackTies.{back_row_keeps_for}
use Rattle.mg_tie_laws.proofs.chain.taking_back_keeps_for.Goals as goal

pub returns : goal.returns
returns g c = back_row_keeps_for packed_form c.one_reading.ensures.packed_rows (λ page n is. is) refl g.row.D.Denot
    g.row.L.Denot g.D.Disk.meaning
