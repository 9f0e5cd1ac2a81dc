use Rattle.mg_image.specs.Form.{packed_form}
use Rattle.mg_image_overlay_laws.specs.transactions.CommitLaws.{commit_every}
use Rattle.mg_image_overlay_laws.proofs.kept.commits_keep.Goals as goal

pub returns : goal.returns
returns c = λ size o h e state now t cache needs active committed others none brings every.
    commit_every packed_form size o h e state now t cache needs active committed others none brings every
