use Rattle.mg_image.specs.Form.{packed_form}
use Rattle.mg_image_overlay_laws.specs.pages.GrowEvery.{grow_every}
use Rattle.mg_image_overlay_laws.proofs.pages.grown_tables_keep.Goals as goal

pub returns : goal.returns
returns c = grow_every packed_form (λ page n is. is)
