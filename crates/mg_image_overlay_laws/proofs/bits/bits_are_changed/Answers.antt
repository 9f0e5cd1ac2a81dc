use Rattle.mg_image.specs.Form.{packed_form}
use Rattle.mg_image_overlay_laws.specs.transactions.MidwayLaws.{commit_changes_every}
use Rattle.mg_image_overlay_laws.proofs.bits.bits_are_changed.Goals as goal

pub returns : goal.returns
returns c = commit_changes_every packed_form (λ page n is. is)
