use Rattle.mg_engine_change_laws.specs.backs.ToTakeLaws.{keys_are_taken, since_are_taken, was_there}
use Rattle.mg_engine_change_laws.proofs.takings.undoing.keys_are_taken.Goals as goal

pub returns-clause-since : goal.returns-clause-since
returns-clause-since c = since_are_taken

pub returns-clause-keys : goal.returns-clause-keys
returns-clause-keys c = keys_are_taken

pub returns-clause-was : goal.returns-clause-was
returns-clause-was c = was_there
