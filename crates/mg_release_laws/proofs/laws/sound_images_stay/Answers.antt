use Rattle.mg_image.specs.Form.{packed_form}
use Rattle.mg_release_laws.specs.StayHeld.{sound_law}
use Rattle.mg_release_laws.proofs.laws.sound_images_stay.Goals as goal

pub returns : goal.returns
returns c = sound_law packed_form (λ page n is. is)
