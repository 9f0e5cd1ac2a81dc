use Rattle.mg_no_damage_laws.proofs.SoundLemmas.{lawful_of, stands_so}
use Rattle.mg_no_damage_laws.proofs.reads.sound_images_are_lawful.Goals as goal

pub returns-clause-records : goal.returns-clause-records
returns-clause-records c = lawful_of

pub returns-clause-tables : goal.returns-clause-tables
returns-clause-tables c = stands_so
