use Rattle.mg_engine_demand_laws.specs.RunLaws.{runs_stay_linked}
use Rattle.mg_engine_demand_laws.proofs.runs.runs_stay_linked.Goals as goal

pub returns : goal.returns
returns g c = runs_stay_linked g.row.D.Denot g.D.Disk.meaning (record {
  writes = c.stores_keep.ensures.writes;
  changes = c.stores_keep.ensures.changes;
  drawn = c.numbers_keep.ensures.drawn;
  committed = c.numbers_keep.ensures.committed;
  asked = c.fates_keep.ensures.asked;
}) c.openings_bear.ensures c.caches_keep.ensures.linked
