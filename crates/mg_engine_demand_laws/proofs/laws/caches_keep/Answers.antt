use Rattle.mg_engine_demand_laws.specs.CacheLaws.{batches_keep, crashes_linked, writes_keep}
use Rattle.mg_engine_demand_laws.proofs.laws.caches_keep.Goals as goal

pub returns-clause-writes : goal.returns-clause-writes
returns-clause-writes c = writes_keep c.all_is_borne.ensures.writes c.runs_bear.ensures.both

pub returns-clause-batches : goal.returns-clause-batches
returns-clause-batches c = batches_keep c.all_is_borne.ensures.writes c.runs_bear.ensures.both c.runs_bear.ensures.exactly

pub returns-clause-linked : goal.returns-clause-linked
returns-clause-linked c = crashes_linked c.demands_are_borne.ensures.overlays
