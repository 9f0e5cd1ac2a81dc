use Rattle.mg_image_overlay_laws.specs.names.JoinedRows.{join_names}
use Rattle.mg_image_overlay_laws.proofs.new_tables.rows_name_more.Goals as goal

pub returns : goal.returns
returns c = join_names
