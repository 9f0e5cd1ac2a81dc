use Rattle.mg_tie_laws.specs.Occupied.{taken_are_occupied}
use Rattle.mg_tie_laws.proofs.space.taken_pages_are_occupied.Goals as goal

pub returns : goal.returns
returns c = taken_are_occupied
