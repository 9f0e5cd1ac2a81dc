use Rattle.mg_generation_laws.specs.GarbageLaws.{drop_stand, erase_stand}
use Rattle.mg_generation_laws.proofs.laws.garbage_may_go.Goals as goal

pub returns-clause-covered : goal.returns-clause-covered
returns-clause-covered c = drop_stand

pub returns-clause-erased : goal.returns-clause-erased
returns-clause-erased c = erase_stand
