use Rattle.mg_engine_change_laws.specs.keys.FoundLaws.{changes_are_there, its_record_is_found}
use Rattle.mg_engine_change_laws.proofs.takings.undoing.its_records_are_found.Goals as goal

pub returns-clause-found : goal.returns-clause-found
returns-clause-found c = its_record_is_found c.records_are_those_of_every_reading.ensures.places
    c.records_are_those_of_every_reading.ensures.speakers

pub returns-clause-changes : goal.returns-clause-changes
returns-clause-changes c = changes_are_there
