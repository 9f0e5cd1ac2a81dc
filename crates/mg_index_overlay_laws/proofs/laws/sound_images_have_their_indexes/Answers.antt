use Rattle.mg_image.specs.Form.{packed_form}
use Rattle.mg_index_overlay_laws.specs.SoundLaws.{indexes_start, sound_has_indexes}
use Rattle.mg_index_overlay_laws.proofs.laws.sound_images_have_their_indexes.Goals as goal

pub returns-clause-image : goal.returns-clause-image
returns-clause-image c = sound_has_indexes packed_form

pub returns-clause-start : goal.returns-clause-start
returns-clause-start c = indexes_start packed_form
