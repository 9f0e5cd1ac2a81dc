use Rattle.mg_image.specs.Form.{packed_form}
use Rattle.mg_image_overlay_laws.specs.names.Making.{make_every}
use Rattle.mg_image_overlay_laws.proofs.new_tables.made_tables_keep.Goals as goal

pub returns : goal.returns
returns c = make_every packed_form
