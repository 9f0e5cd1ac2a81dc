use Rattle.mg_image.specs.Form.{packed_form}
use Rattle.mg_image_overlay_laws.specs.names.Creating.{create_every}
use Rattle.mg_image_overlay_laws.proofs.pages.new_tables_keep.Goals as goal

pub returns : goal.returns
returns c = create_every packed_form
