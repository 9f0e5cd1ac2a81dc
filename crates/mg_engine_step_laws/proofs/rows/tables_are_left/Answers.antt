use Rattle.mg_engine_step_laws.specs.tables_back.TakenRows.{tables_are_left}
use Rattle.mg_engine_step_laws.proofs.rows.tables_are_left.Goals as goal

pub returns : goal.returns
returns c = tables_are_left
