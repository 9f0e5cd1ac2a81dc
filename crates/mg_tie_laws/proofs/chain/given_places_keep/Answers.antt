use Rattle.mg_image.specs.Form.{packed_form}
use Rattle.mg_tie_laws.specs.SpotRowTies.{spot_row_gives}
use Rattle.mg_tie_laws.proofs.chain.given_places_keep.Goals as goal

pub returns : goal.returns
returns g c = spot_row_gives packed_form c.one_reading.ensures.packed_rows (λ page n is. is) g.row.D.Denot
    g.row.L.Denot g.D.Disk.meaning
