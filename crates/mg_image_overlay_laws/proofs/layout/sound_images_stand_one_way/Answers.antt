use Rattle.mg_image.specs.Form.{packed_form}
use Rattle.mg_image_overlay_laws.specs.tables.OneLayout.{sound_once}
use Rattle.mg_image_overlay_laws.proofs.layout.sound_images_stand_one_way.Goals as goal

pub returns : goal.returns
returns c = λ size state pages a b r s first second. sound_once packed_form c.one_reading.ensures.packed_rows
    (λ page n is. is) size state pages a b r s first second
