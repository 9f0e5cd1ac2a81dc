use Rattle.mg_image.specs.Form.{packed_form}
use Rattle.mg_image_overlay_laws.specs.tables.FirstGrown.{add_grown_every}
use Rattle.mg_image_overlay_laws.proofs.grown.first_versions_grow.Goals as goal

pub returns : goal.returns
returns c = add_grown_every packed_form c.one_reading.ensures.packed_rows (λ page n is. is)
