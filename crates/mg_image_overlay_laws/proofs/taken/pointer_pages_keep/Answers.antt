use Rattle.mg_image.specs.Form.{packed_form}
use Rattle.mg_image_overlay_laws.specs.pages.ExtendEvery.{link_every}
use Rattle.mg_image_overlay_laws.proofs.taken.pointer_pages_keep.Goals as goal

pub returns : goal.returns
returns c = link_every packed_form (λ page n is. is)
