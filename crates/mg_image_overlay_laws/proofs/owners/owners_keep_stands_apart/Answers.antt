use Rattle.mg_image.specs.Form.{packed_form}
use Rattle.mg_image_overlay_laws.specs.tables.StandOwners.{owners_keep_stands_apart}
use Rattle.mg_image_overlay_laws.proofs.owners.owners_keep_stands_apart.Goals as goal

pub returns : goal.returns
returns c = owners_keep_stands_apart packed_form
