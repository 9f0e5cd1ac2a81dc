use Rattle.mg_image.specs.Form.{packed_form}
use Rattle.mg_image_overlay_laws.specs.records.ReplaceEvery.{replace_every}
use Rattle.mg_image_overlay_laws.proofs.own.replacements_keep.Goals as goal

pub returns : goal.returns
returns c = replace_every packed_form c.one_reading.ensures.packed_rows (λ page n is. is)
