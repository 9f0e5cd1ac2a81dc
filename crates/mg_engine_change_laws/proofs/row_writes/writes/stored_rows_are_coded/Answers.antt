use Rattle.mg_engine_change_laws.specs.rows.CodeLaws as laws
use Rattle.mg_engine_change_laws.proofs.row_writes.writes.stored_rows_are_coded.Goals as goal

pub returns : goal.returns
returns c = laws.stored_rows_are_coded
