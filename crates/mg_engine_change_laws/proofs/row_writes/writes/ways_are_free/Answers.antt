use Rattle.mg_engine_change_laws.specs.rows.WayLaws as laws
use Rattle.mg_engine_change_laws.proofs.row_writes.writes.ways_are_free.Goals as goal

pub returns : goal.returns
returns c = laws.ways_are_free c.records_are_free.ensures
