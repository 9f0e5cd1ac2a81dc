use Rattle.mg_image.specs.Form.{packed_form}
use Rattle.mg_image_overlay_laws.specs.names.NamedTables.{names_tell_tables}
use Rattle.mg_image_overlay_laws.proofs.named_tables.names_tell_tables.Goals as goal

pub returns : goal.returns
returns c = names_tell_tables packed_form c.one_reading.ensures.packed_rows (λ page n is. is)
