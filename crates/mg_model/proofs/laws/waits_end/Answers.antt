use Rattle.mg_model.specs.CycleLaws.{no_way_back}
use Rattle.mg_model.proofs.laws.waits_end.Goals as goal

pub returns : goal.returns
returns c = λ o h t u most opening legal waits. no_way_back o opening h legal t u most waits
