use Rattle.mg_image.specs.Form.{packed_form}
use Rattle.mg_image_overlay_laws.specs.records.BackEvery.{take_back_every}
use Rattle.mg_image_overlay_laws.proofs.own.taking_back_keeps.Goals as goal

pub returns : goal.returns
returns c = take_back_every packed_form c.one_reading.ensures.packed_rows (λ page n is. is)
