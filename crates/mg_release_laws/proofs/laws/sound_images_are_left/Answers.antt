use Rattle.mg_image.specs.Form.{packed_form}
use Rattle.mg_release_laws.specs.Written.{left_sound}
use Rattle.mg_release_laws.proofs.laws.sound_images_are_left.Goals as goal

pub returns : goal.returns
returns c =
    left_sound packed_form c.released_pages_are_orphans.ensures c.sound_images_stay.ensures
