use Rattle.mg_engine_change_laws.specs.backs.BackFindsLaws.{back_finds}
use Rattle.mg_engine_change_laws.proofs.takings.undoing.tables_are_found_back.Goals as goal

pub returns : goal.returns
returns c = back_finds c.sound_images_stand_one_way.ensures c.memory_follows.ensures.tables
