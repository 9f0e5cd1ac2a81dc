use Rattle.mg_image.specs.Form.{packed_form}
use Rattle.mg_demand_laws.proofs.SoundLemmas.{sound_is_linked, sound_is_wanted}
use Rattle.mg_demand_laws.proofs.sound.sound_images_are_linked.Goals as goal

pub returns-clause-linked : goal.returns-clause-linked
returns-clause-linked c = λ size state pages layout r sound filled.
    sound_is_linked packed_form c.careful_write.ensures.lists size state pages layout r sound filled

pub returns-clause-wanted : goal.returns-clause-wanted
returns-clause-wanted c = λ size state pages layout r sound filled.
    sound_is_wanted packed_form c.careful_write.ensures.lists size state pages layout r sound filled
