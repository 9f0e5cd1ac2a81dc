use Rattle.mg_engine_step_laws.specs.tables.FindingLaws.{begin_finds, commit_finds, idle_finds, look_finds}
use Rattle.mg_engine_step_laws.proofs.tables.tables_are_found.Goals as goal

pub returns-clause-begin : goal.returns-clause-begin
returns-clause-begin c = begin_finds c.sound_images_stand_one_way.ensures c.memory_follows.ensures.tables

pub returns-clause-look : goal.returns-clause-look
returns-clause-look c = look_finds c.sound_images_stand_one_way.ensures c.memory_follows.ensures.tables

pub returns-clause-idle : goal.returns-clause-idle
returns-clause-idle c = idle_finds c.sound_images_stand_one_way.ensures c.memory_follows.ensures.tables

pub returns-clause-commit : goal.returns-clause-commit
returns-clause-commit c = commit_finds c.sound_images_stand_one_way.ensures c.memory_follows.ensures.tables
