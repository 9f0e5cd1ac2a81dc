use Rattle.mg_demand_laws.specs.StepTies.{steps_bear_all}
use Rattle.mg_demand_laws.proofs.ties.steps_bear.Goals as goal

pub returns : goal.returns
returns c = steps_bear_all c.runs_bear.ensures.both c.runs_bear.ensures.exactly
