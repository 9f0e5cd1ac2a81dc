use Rattle.mg_engine_change_laws.specs.rows.BeforeLaws as laws
use Rattle.mg_engine_change_laws.proofs.row_writes.writes.befores_are_told.Goals as goal

pub returns : goal.returns
returns c = laws.befores_are_told c.records_are_those_of_every_reading.ensures.places
    c.records_are_those_of_every_reading.ensures.rows
