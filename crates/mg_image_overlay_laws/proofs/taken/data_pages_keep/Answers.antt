use Rattle.mg_image.specs.Form.{packed_form}
use Rattle.mg_image_overlay_laws.specs.pages.ExtendEvery.{enter_every}
use Rattle.mg_image_overlay_laws.proofs.taken.data_pages_keep.Goals as goal

pub returns : goal.returns
returns c = enter_every packed_form (λ page n is. is)
