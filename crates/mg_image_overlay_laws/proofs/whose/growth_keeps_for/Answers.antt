use Rattle.mg_image.specs.Form.{packed_form}
use Rattle.mg_image_overlay_laws.specs.tables.GrowthFor.{growth_for_every}
use Rattle.mg_image_overlay_laws.proofs.whose.growth_keeps_for.Goals as goal

pub returns : goal.returns
returns c = growth_for_every packed_form c.one_reading.ensures.packed_rows (λ page n is. is)
