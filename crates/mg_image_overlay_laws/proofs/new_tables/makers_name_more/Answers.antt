use Rattle.mg_image.specs.Form.{packed_coding}
use Rattle.mg_image_overlay_laws.specs.names.MadeRows.{makers_name}
use Rattle.mg_image_overlay_laws.proofs.new_tables.makers_name_more.Goals as goal

pub returns : goal.returns
returns c = makers_name packed_coding
