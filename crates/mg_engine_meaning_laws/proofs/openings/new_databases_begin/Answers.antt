use Rattle.mg_engine_meaning_laws.specs.NewBeginLaws.{new_begin}
use Rattle.mg_engine_meaning_laws.proofs.openings.new_databases_begin.Goals as goal

pub returns : goal.returns
returns c = new_begin c.new_databases_are_sound.ensures.sound c.new_databases_are_sound.ensures.opened
    c.sound_images_stand_one_way.ensures
