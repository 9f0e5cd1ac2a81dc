use Rattle.std.proofs.Common.{refl}
use Rattle.mg_image.specs.Form.{packed_form}
use Rattle.mg_tie_laws.specs.PlaceTies.{place_row_keeps_for}
use Rattle.mg_tie_laws.proofs.chain.replacements_keep_for.Goals as goal

pub returns : goal.returns
returns g c = place_row_keeps_for packed_form c.one_reading.ensures.packed_rows (λ page n is. is) refl g.row.D.Denot
    g.row.L.Denot g.D.Disk.meaning
