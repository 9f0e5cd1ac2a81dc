use Rattle.mg_image.specs.Form.{packed_form}
use Rattle.mg_image_overlay_laws.specs.records.BackEvery.{dead_out_every}
use Rattle.mg_image_overlay_laws.proofs.own.dead_versions_go.Goals as goal

pub returns : goal.returns
returns c = dead_out_every packed_form c.one_reading.ensures.packed_rows (λ page n is. is)
