use Rattle.mg_engine_step_laws.specs.tables.FindingLaws.{begin_has_tables, look_has_tables}
use Rattle.mg_engine_step_laws.proofs.tables.bases_have_tables.Goals as goal

pub returns-clause-begin : goal.returns-clause-begin
returns-clause-begin c = begin_has_tables c.named_tables_stand.ensures.database

pub returns-clause-look : goal.returns-clause-look
returns-clause-look c = look_has_tables c.named_tables_stand.ensures.newly
