use Rattle.mg_image.specs.Form.{packed_form}
use Rattle.mg_engine_change_laws.specs.tables.JoinedKept.{joined_are_kept}
use Rattle.mg_engine_change_laws.specs.tables.JoinedSound.{joined_are_sound}
use Rattle.mg_engine_change_laws.proofs.makings.joining.joined_tables_stand.Goals as goal

pub returns-clause-sound : goal.returns-clause-sound
returns-clause-sound c = joined_are_sound packed_form

pub returns-clause-kept : goal.returns-clause-kept
returns-clause-kept c = joined_are_kept packed_form
