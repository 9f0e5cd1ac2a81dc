use Rattle.mg_image.specs.Form.{packed_form}
use Rattle.mg_release_laws.specs.StayHeld.{opened_law}
use Rattle.mg_release_laws.proofs.laws.opened_images_stay.Goals as goal

pub returns : goal.returns
returns c = opened_law packed_form (λ page n is. is)
