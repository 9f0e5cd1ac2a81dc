use Rattle.mg_plan.proofs.PlanLemmas.{has_index, planned}
use Rattle.mg_plan.proofs.planning.path.Goals as goal

pub returns-in-Ok-clause-plan : goal.returns-in-Ok-clause-plan
returns-in-Ok-clause-plan c = planned c.args.t.now c.args.b.now c.filter_of.result.now c.in-Ok.path c.filter_of.ensures
    (rw c.as_slice.ensures at c.in-Ok.ensures)

pub returns-in-Ok-clause-index : goal.returns-in-Ok-clause-index
returns-in-Ok-clause-index c = has_index c.planned_indexes_are_there.ensures c.args.t.now c.filter_of.result.now
    c.in-Ok.path (rw c.as_slice.ensures at c.in-Ok.ensures)
