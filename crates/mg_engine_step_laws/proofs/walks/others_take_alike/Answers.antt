use Rattle.mg_engine_step_laws.specs.reads.TakesLaws.{others_take_alike}
use Rattle.mg_engine_step_laws.proofs.walks.others_take_alike.Goals as goal

pub returns : goal.returns
returns c = others_take_alike
