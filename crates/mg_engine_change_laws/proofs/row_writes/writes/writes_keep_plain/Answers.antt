use Rattle.mg_engine_change_laws.specs.rows.PlainLaws as laws
use Rattle.mg_engine_change_laws.proofs.row_writes.writes.writes_keep_plain.Goals as goal

pub returns : goal.returns
returns c = laws.writes_keep_plain c.one_reading.ensures.packed_rows
