use Rattle.mg_demand_laws.proofs.NeededLemmas.{leaving_needed, needed}
use Rattle.mg_demand_laws.proofs.needed.orders_are_needed.Goals as goal

pub returns-clause-ahead : goal.returns-clause-ahead
returns-clause-ahead g c = needed g.L.Links.demands_of g.L.Links.meets_of

pub returns-clause-behind : goal.returns-clause-behind
returns-clause-behind g c = leaving_needed g.L.Links.demands_of g.L.Links.meets_of
