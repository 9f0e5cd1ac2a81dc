use Rattle.mg_image.specs.Form.{packed_form}
use Rattle.mg_image_overlay_laws.specs.transactions.EndLaws.{begin_every, rollback_every}
use Rattle.mg_image_overlay_laws.proofs.kept.active_ones_begin_and_end.Goals as goal

pub returns-clause-begins : goal.returns-clause-begins
returns-clause-begins c = λ size o h e state now t cache needs dead active others leaves nothing fresh all
    clean every. begin_every packed_form size o h e state now t cache needs dead active others leaves
    nothing fresh all clean every

pub returns-clause-rolls_back : goal.returns-clause-rolls_back
returns-clause-rolls_back c = λ size o h e state now t cache needs active dead others leaves every.
    rollback_every packed_form size o h e state now t cache needs active dead others leaves every
