use Rattle.mg_demand_laws.proofs.BearingLemmas.{batches, overlays, starts, writes}
use Rattle.mg_demand_laws.proofs.bearing.demands_are_borne.Goals as goal

pub returns-clause-starts : goal.returns-clause-starts
returns-clause-starts g c = starts g.L.Links.demands_of g.L.Links.meets_of

pub returns-clause-writes : goal.returns-clause-writes
returns-clause-writes g c = writes g.L.Links.demands_of g.L.Links.meets_of c.careful_write.ensures.writes

pub returns-clause-batches : goal.returns-clause-batches
returns-clause-batches g c = batches g.L.Links.demands_of g.L.Links.meets_of
    c.careful_write.ensures.writes c.careful_write.ensures.batch

pub returns-clause-overlays : goal.returns-clause-overlays
returns-clause-overlays g c = overlays g.L.Links.demands_of g.L.Links.meets_of
    c.careful_write.ensures.overlays
