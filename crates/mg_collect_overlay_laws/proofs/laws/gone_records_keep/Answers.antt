use Rattle.mg_image.specs.Form.{packed_form}
use Rattle.mg_collect_overlay_laws.specs.GonePart.{gone_every}
use Rattle.mg_collect_overlay_laws.proofs.laws.gone_records_keep.Goals as goal

pub returns : goal.returns
returns c = gone_every packed_form (λ page n is. is)
