use Rattle.mg_image.specs.Form.{packed_form}
use Rattle.mg_image_overlay_laws.specs.transactions.CommitSound.{commit_sound}
use Rattle.mg_image_overlay_laws.proofs.steps.commits_stay_sound.Goals as goal

pub returns : goal.returns
returns c = λ size state t pages layout r limbo sound.
    commit_sound state t limbo packed_form size pages layout r sound
