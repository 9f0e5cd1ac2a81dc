use Rattle.mg_image.specs.Form.{packed_form}
use Rattle.mg_overlay_laws.specs.BatchLaws.{writes_keep}
use Rattle.mg_image_overlay_laws.specs.kept.KeptImages.{keeping}
use Rattle.mg_image_overlay_laws.proofs.kept.page_writes_keep.Goals as goal

pub returns : goal.returns
returns c = λ size o h. writes_keep (keeping packed_form size o h)
