use Rattle.mg_image.specs.Form.{packed_form}
use Rattle.mg_image_overlay_laws.specs.records.AddEvery.{add_every}
use Rattle.mg_image_overlay_laws.proofs.records.first_versions_keep.Goals as goal

pub returns : goal.returns
returns c = add_every packed_form (λ page n is. is)
