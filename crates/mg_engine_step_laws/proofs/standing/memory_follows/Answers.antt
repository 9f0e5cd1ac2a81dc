use Rattle.mg_engine_step_laws.specs.standing.BasedLaws.{based_follow}
use Rattle.mg_engine_step_laws.specs.standing.MemoryLaws.{memory_begins, memory_follows, others_keep_tables}
use Rattle.mg_engine_step_laws.proofs.standing.memory_follows.Goals as goal

pub returns-clause-begins : goal.returns-clause-begins
returns-clause-begins c = memory_begins c.bases_follow_the_machine.ensures.begins

pub returns-clause-follows : goal.returns-clause-follows
returns-clause-follows c = memory_follows c.bases_follow_the_machine.ensures.follows
    c.notes_follow_the_machine.ensures.its c.notes_follow_the_machine.ensures.others

pub returns-clause-tables : goal.returns-clause-tables
returns-clause-tables c = others_keep_tables

pub returns-clause-bases : goal.returns-clause-bases
returns-clause-bases c = based_follow
