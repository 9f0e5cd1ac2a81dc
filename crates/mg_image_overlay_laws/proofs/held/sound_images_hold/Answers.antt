use Rattle.mg_image.specs.Form.{packed_form}
use Rattle.mg_image_overlay_laws.specs.kept.HeldSome.{sound_holds, sound_opens}
use Rattle.mg_image_overlay_laws.proofs.held.sound_images_hold.Goals as goal

pub returns-clause-by_state : goal.returns-clause-by_state
returns-clause-by_state c = sound_holds packed_form

pub returns-clause-by_bits : goal.returns-clause-by_bits
returns-clause-by_bits c = sound_opens packed_form
