use Rattle.mg_engine_change_laws.specs.tables.RememberingLaws.{rows_are_remembered}
use Rattle.mg_engine_change_laws.proofs.makings.rows.made_rows_are_remembered.Goals as goal

pub returns : goal.returns
returns c = rows_are_remembered c.the_list_follows_the_machine.ensures.kept c.memory_follows.ensures.follows
