use Rattle.mg_image.specs.Form.{packed_form}
use Rattle.mg_release_laws.specs.Written.{left_opens}
use Rattle.mg_release_laws.proofs.laws.opened_images_are_left.Goals as goal

pub returns : goal.returns
returns c =
    left_opens packed_form c.released_pages_are_orphans.ensures c.opened_images_stay.ensures
