use Rattle.mg_engine_change_laws.specs.rows.OwnerLaws as laws
use Rattle.mg_engine_change_laws.proofs.row_writes.writes.seen_may_be_written.Goals as goal

pub returns : goal.returns
returns c = laws.seen_may_be_written c.one_reading.ensures.packed_rows c.names_tell_tables.ensures
    c.catalogs_grow.ensures.seen c.histories_go_on.ensures.begins
