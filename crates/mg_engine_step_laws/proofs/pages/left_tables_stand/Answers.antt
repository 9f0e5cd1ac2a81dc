use Rattle.mg_image.specs.Form.{packed_form}
use Rattle.mg_engine_step_laws.specs.tables_back.TakenKept.{left_are_kept}
use Rattle.mg_engine_step_laws.specs.tables_back.TakenSound.{left_are_sound}
use Rattle.mg_engine_step_laws.proofs.pages.left_tables_stand.Goals as goal

pub returns-clause-sound : goal.returns-clause-sound
returns-clause-sound c = left_are_sound packed_form

pub returns-clause-kept : goal.returns-clause-kept
returns-clause-kept c = left_are_kept packed_form
