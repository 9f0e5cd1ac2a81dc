use Rattle.mg_engine_change_laws.specs.tables.MakingRowsLaws.{rows_follow}
use Rattle.mg_engine_change_laws.proofs.makings.rows.made_rows_follow.Goals as goal

pub returns : goal.returns
returns c = rows_follow c.versions_go_on.ensures.written c.versions_go_on.ensures.silent c.keys_are_answered.ensures.nothing
