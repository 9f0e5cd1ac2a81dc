use Rattle.mg_image.specs.Form.{packed_form}
use Rattle.mg_collect_overlay_laws.specs.SkipFree.{skip_every}
use Rattle.mg_collect_overlay_laws.proofs.laws.collections_keep.Goals as goal

pub returns : goal.returns
returns c = skip_every packed_form (λ page n is. is)
