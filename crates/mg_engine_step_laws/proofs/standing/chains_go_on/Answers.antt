use Rattle.mg_engine_step_laws.specs.standing.ChainLaws.{stand_goes_on}
use Rattle.mg_engine_step_laws.proofs.standing.chains_go_on.Goals as goal

pub returns : goal.returns
returns c = λ o h e table key chain opening legal stand.
    stand_goes_on o opening h e legal table key chain stand
