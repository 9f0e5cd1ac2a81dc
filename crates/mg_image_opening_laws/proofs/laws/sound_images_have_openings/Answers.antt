use Rattle.mg_image.specs.Form.{packed_form, plain_form}
use Rattle.mg_image_opening_laws.specs.Openings.{opened_begin, packed_fitting, plain_fitting, sound_have}
use Rattle.mg_image_opening_laws.proofs.laws.sound_images_have_openings.Goals as goal

pub returns-clause-packed : goal.returns-clause-packed
returns-clause-packed c = sound_have packed_form packed_fitting

pub returns-clause-plain : goal.returns-clause-plain
returns-clause-plain c = sound_have plain_form plain_fitting

pub returns-clause-packed_opened : goal.returns-clause-packed_opened
returns-clause-packed_opened c = opened_begin packed_form packed_fitting

pub returns-clause-plain_opened : goal.returns-clause-plain_opened
returns-clause-plain_opened c = opened_begin plain_form plain_fitting
