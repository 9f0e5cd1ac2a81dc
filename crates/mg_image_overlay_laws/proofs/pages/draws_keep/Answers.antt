use Rattle.mg_image.specs.Form.{packed_form}
use Rattle.mg_image_overlay_laws.specs.pages.Draw.{draw_every}
use Rattle.mg_image_overlay_laws.proofs.pages.draws_keep.Goals as goal

pub returns : goal.returns
returns c = draw_every packed_form (λ page n is. is)
