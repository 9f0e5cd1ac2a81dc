use Rattle.mg_seek.specs.ReadingLaws.{keys_of_readings, obstacles_of_readings, places_of_readings, rows_of_readings, speakers_of_readings}
use Rattle.mg_seek.proofs.laws.records_are_those_of_every_reading.Goals as goal

pub returns-clause-places : goal.returns-clause-places
returns-clause-places c = places_of_readings

pub returns-clause-rows : goal.returns-clause-rows
returns-clause-rows c = rows_of_readings c.one_reading.ensures.packed_rows

pub returns-clause-speakers : goal.returns-clause-speakers
returns-clause-speakers c = speakers_of_readings c.one_reading.ensures.packed_rows

pub returns-clause-obstacles : goal.returns-clause-obstacles
returns-clause-obstacles c = obstacles_of_readings c.one_reading.ensures.packed_rows

pub returns-clause-keys : goal.returns-clause-keys
returns-clause-keys c = keys_of_readings c.one_reading.ensures.packed_rows
