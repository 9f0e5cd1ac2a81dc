use Rattle.mg_paths.specs.PlannedLaws as laws
use Rattle.mg_paths.proofs.laws.planned_indexes_are_there.Goals as goal

pub returns : goal.returns
returns c = laws.planned_indexes_are_there
