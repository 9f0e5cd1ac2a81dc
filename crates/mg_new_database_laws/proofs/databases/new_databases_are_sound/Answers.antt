use Rattle.mg_new_database_laws.specs.HeldLaws.{new_are_opened}
use Rattle.mg_new_database_laws.specs.SoundnessLaws.{new_are_sound}
use Rattle.mg_new_database_laws.proofs.databases.new_databases_are_sound.Goals as goal

pub returns-clause-sound : goal.returns-clause-sound
returns-clause-sound c = new_are_sound

pub returns-clause-opened : goal.returns-clause-opened
returns-clause-opened c = new_are_opened
