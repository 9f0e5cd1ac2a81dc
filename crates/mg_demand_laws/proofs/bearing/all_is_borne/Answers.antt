use Rattle.mg_demand_laws.proofs.AllLemmas.{all_starts, batches_bear_all, writes_bear_all}
use Rattle.mg_demand_laws.proofs.bearing.all_is_borne.Goals as goal

pub returns-clause-starts : goal.returns-clause-starts
returns-clause-starts g c = all_starts g.L.Links.demands_of g.L.Links.meets_of c.demands_are_borne.ensures.starts

pub returns-clause-writes : goal.returns-clause-writes
returns-clause-writes g c = writes_bear_all g.L.Links.demands_of g.L.Links.meets_of
    c.demands_are_borne.ensures.writes

pub returns-clause-batches : goal.returns-clause-batches
returns-clause-batches g c = batches_bear_all g.L.Links.demands_of g.L.Links.meets_of
    c.careful_write.ensures.writes c.demands_are_borne.ensures.writes c.careful_write.ensures.batch
