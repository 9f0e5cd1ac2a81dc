use Rattle.mg_engine_change_laws.specs.tables_back.TablesMemoryLaws.{tables_follow}
use Rattle.mg_engine_change_laws.proofs.over_tables.ways.tables_follow.Goals as goal

pub returns : goal.returns
returns c = tables_follow c.the_list_follows_the_machine.ensures.back c.left_tables_are_seen.ensures
