use Rattle.mg_demand_laws.proofs.RunLemmas.{batch_bears, batch_exactly, in_three, runs_bear}
use Rattle.mg_demand_laws.proofs.batches.runs_bear.Goals as goal

pub returns-clause-runs : goal.returns-clause-runs
returns-clause-runs c = runs_bear c.all_is_borne.ensures.writes c.all_is_borne.ensures.batches
    c.demands_are_borne.ensures.overlays

pub returns-clause-batch : goal.returns-clause-batch
returns-clause-batch c = batch_bears c.all_is_borne.ensures.writes c.all_is_borne.ensures.batches
    c.demands_are_borne.ensures.overlays

pub returns-clause-exactly : goal.returns-clause-exactly
returns-clause-exactly c = batch_exactly c.all_is_borne.ensures.writes c.all_is_borne.ensures.batches
    c.demands_are_borne.ensures.overlays

pub returns-clause-both : goal.returns-clause-both
returns-clause-both c = in_three
