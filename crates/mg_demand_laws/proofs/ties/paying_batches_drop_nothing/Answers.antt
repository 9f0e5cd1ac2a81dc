use Rattle.mg_demand_laws.specs.Alone.{paying_drops_nothing}
use Rattle.mg_demand_laws.proofs.ties.paying_batches_drop_nothing.Goals as goal

pub returns : goal.returns
returns c = paying_drops_nothing
