use Rattle.mg_trace.specs.PuttingLaws.{puts_both}
use Rattle.mg_trace.proofs.event.put_decide.Goals as goal

pub returns : goal.returns
returns c = puts_both _ _ _ _ _ c.put_by.ensures c.put_either.ensures
