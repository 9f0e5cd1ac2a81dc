use Rattle.mg_image.specs.Form.{packed_form}
use Rattle.mg_image_overlay_laws.specs.records.PushEvery.{push_every}
use Rattle.mg_image_overlay_laws.proofs.records.pushes_keep.Goals as goal

pub returns : goal.returns
returns c = push_every packed_form (λ page n is. is)
