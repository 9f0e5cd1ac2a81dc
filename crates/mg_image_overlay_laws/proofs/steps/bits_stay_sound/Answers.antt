use Rattle.mg_image.specs.Form.{packed_form}
use Rattle.mg_image_overlay_laws.specs.transactions.Bits.{bits_sound}
use Rattle.mg_image_overlay_laws.proofs.steps.bits_stay_sound.Goals as goal

pub returns : goal.returns
returns c = λ size state old new b k layout r sound change drawn keeps sequences.
    bits_sound packed_form size state old new b k layout r sound change drawn keeps sequences
